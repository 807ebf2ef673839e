-- What governs, number by number: what the proofs of the code cite.
-- Assumes nothing.
use Rattle.std.specs.Prelude.{ℕ, ◌≤◌, ◌<◌, ◌≡◌, true, false, List, leb, eqb}
use Rattle.std.proofs.Common.{arith, sym, ap, ◌∙◌}
use borrow.Author.Tests.{eq-eqb, ne_eqb, le-leb, lt-leb, leb-true, leb-false, eqb-true, eqb-false}
use Rattle.base.specs.Laws.{cases}
use Rattle.types.specs.Types.{rom_type_of}
use Rattle.rows.specs.LentRows.{has_set_row, rom_count, first_rom, type_word}
use Rattle.governing.specs.Governing.{GoverningSet, ungoverned, lacks_first_rom, governing, governing_set0, governing_own}

module _ (pins_number served : ℕ) (sets roms : List ℕ) where
  pub no_pins : (pins_number ≡ 0 → ⊥) → governing_set0 pins_number served sets roms ≡ ungoverned 70
  unfolding governing_set0
  no_pins h = rw (ne_eqb pins_number 0 h)

  pub no_sets : pins_number ≡ 0 → served ≡ 0 → governing_set0 pins_number served sets roms ≡ ungoverned 71
  unfolding governing_set0
  no_sets h i = rw (eq-eqb pins_number 0 h, eq-eqb served 0 i)

  pub by_set_0 : pins_number ≡ 0 → (served ≡ 0 → ⊥) → governing_set0 pins_number served sets roms ≡ governing sets roms 0
  unfolding governing_set0
  by_set_0 h i = rw (eq-eqb pins_number 0 h, ne_eqb served 0 i)

module _ (sets roms : List ℕ) (i : ℕ) where
  pub no_set_row : has_set_row sets i ≡ false → governing sets roms i ≡ ungoverned 4
  unfolding governing
  no_set_row h = rw h

  pub no_rom_row : has_set_row sets i ≡ true → lacks_first_rom sets roms i ≡ true → governing sets roms i ≡ ungoverned 4
  unfolding governing
  no_rom_row h e = rw (h, e)

  pub by_set : has_set_row sets i ≡ true → lacks_first_rom sets roms i ≡ false
      → governing sets roms i ≡ record { number = 0; rom_count = rom_count sets i; rom_type = rom_type_of (type_word roms (first_rom sets i)) }
  unfolding governing
  by_set h e = rw (h, e)

  -- accepted, it is by the set's own row and its first ROM's type
  pub governing_lent : (governing sets roms i).number ≡ 0
      → (has_set_row sets i ≡ true)
      × (governing sets roms i ≡ record { number = 0; rom_count = rom_count sets i; rom_type = rom_type_of (type_word roms (first_rom sets i)) })
  governing_lent e =
      cases (has_set_row sets i)
      (λ h.
      cases (lacks_first_rom sets roms i)
      (λ j. let z : ◌≡◌ {A = ℕ} 4 0 = ap (λ (g : GoverningSet). g.number) (sym (no_rom_row h j)) ∙ e in absurd (omega arith))
      (λ j. (h, by_set h j)))
      (λ h. let z : ◌≡◌ {A = ℕ} 4 0 = ap (λ (g : GoverningSet). g.number) (sym (no_set_row h)) ∙ e in absurd (omega arith))

  -- refused, it is 4
  pub governing_4 : ((governing sets roms i).number ≡ 0 → ⊥) → governing sets roms i ≡ ungoverned 4
  governing_4 n =
      cases (has_set_row sets i)
      (λ h.
      cases (lacks_first_rom sets roms i)
      (λ j. no_rom_row h j)
      (λ j. absurd (n (ap (λ (g : GoverningSet). g.number) (by_set h j)))))
      (λ h. no_set_row h)

-- ---- wish 1: the named set governs

module _ (pins_number served : ℕ) (sets roms : List ℕ) (set : ℕ) where
  pub own_no_set : served ≤ set → governing_own pins_number served sets roms set ≡ ungoverned 80
  unfolding governing_own
  own_no_set h = rw (le-leb served set h)

  pub own_no_row : set < served → ((governing sets roms set).number ≡ 0 → ⊥) → governing_own pins_number served sets roms set ≡ governing sets roms set
  unfolding governing_own
  own_no_row h i = rw (lt-leb served set h, ne_eqb (governing sets roms set).number 0 i)

  pub own_no_pins : set < served → (governing sets roms set).number ≡ 0 → (pins_number ≡ 0 → ⊥) → governing_own pins_number served sets roms set ≡ ungoverned 70
  unfolding governing_own
  own_no_pins h i j = rw (lt-leb served set h, eq-eqb (governing sets roms set).number 0 i, ne_eqb pins_number 0 j)

  pub own_by_set : set < served → (governing sets roms set).number ≡ 0 → pins_number ≡ 0 → governing_own pins_number served sets roms set ≡ governing sets roms set
  unfolding governing_own
  own_by_set h i j = rw (lt-leb served set h, eq-eqb (governing sets roms set).number 0 i, eq-eqb pins_number 0 j)

  -- where it governs, the set is served and the pins are accepted
  pub record Governs : Type 0 where
    pub served_set : set < served
    pub accepted_pins : pins_number ≡ 0
    pub its_own : governing_own pins_number served sets roms set ≡ governing sets roms set

  pub own_governs : (governing_own pins_number served sets roms set).number ≡ 0 → Governs
  own_governs e =
      cases (leb served set)
      (λ h. let z : ◌≡◌ {A = ℕ} 80 0 = ap (λ (g : GoverningSet). g.number) (sym (own_no_set (leb-true served set h))) ∙ e in absurd (omega arith))
      (λ h.
      let there = leb-false served set h in
      cases (eqb (governing sets roms set).number 0)
      (λ i.
      let lent = eqb-true (governing sets roms set).number 0 i in
      cases (eqb pins_number 0)
      (λ j. record { served_set = there; accepted_pins = eqb-true pins_number 0 j; its_own = own_by_set there lent (eqb-true pins_number 0 j) })
      (λ j. let z : ◌≡◌ {A = ℕ} 70 0 = ap (λ (g : GoverningSet). g.number) (sym (own_no_pins there lent (eqb-false pins_number 0 j))) ∙ e in absurd (omega arith)))
      (λ i.
      let bad = eqb-false (governing sets roms set).number 0 i in
      absurd (bad (ap (λ (g : GoverningSet). g.number) (sym (own_no_row there bad)) ∙ e))))
