-- Mangling and demangling on a board, number by number: what the proofs of the code cite.
-- Assumes nothing.
use Rattle.std.specs.Prelude.{ℕ, ◌≡◌, refl, List, eqb}
use Rattle.std.proofs.Common.{sym, ap, ◌∙◌, eqb-true, eq-eqb, ne_eqb}
use Rattle.std.proofs.lemmas.Bool.{eqb-false}
use Rattle.base.specs.Laws.{cases}
use Rattle.types.specs.declared.SdrrCsSet.{SdrrCsSet}
use Rattle.board.specs.declared.BoardPins.{BoardPins}
use Rattle.mangle.specs.Mangle.{Mangled, mangle_core}
use Rattle.governing.specs.Governing.{GoverningSet, governing_set0, governing_own}
use Rattle.governing.proofs.Laws.{Governs, own_governs}
use Rattle.info.specs.Lent.{unmangled, mangled_by, mangle_address, mangle_own}

module _ (g : GoverningSet) (pins : BoardPins) (address : ℕ) (levels : SdrrCsSet) where
  pub not_governed : (g.number ≡ 0 → ⊥) → mangled_by g pins address levels ≡ unmangled g.number
  unfolding mangled_by
  not_governed h = rw (ne_eqb g.number 0 h)

  pub governed : g.number ≡ 0 → mangled_by g pins address levels ≡ mangle_core pins g.rom_count g.rom_type address levels
  unfolding mangled_by
  governed h = rw (eq-eqb g.number 0 h)

  -- an accepted mangling is governed
  pub mangled_governed : (mangled_by g pins address levels).number ≡ 0 → g.number ≡ 0
  mangled_governed e =
      cases (eqb g.number 0)
      (λ h. eqb-true g.number 0 h)
      (λ h. let none = eqb-false g.number 0 h in absurd (none (ap (λ (t : Mangled). t.number) (sym (not_governed none)) ∙ e)))

-- what governs, then the mangling by it
pub in_two : (pins : BoardPins) (served : ℕ) (sets roms : List ℕ) (address : ℕ) (levels : SdrrCsSet)
    → mangle_address pins served sets roms address levels ≡ mangled_by (governing_set0 pins.number served sets roms) pins address levels
unfolding mangle_address
in_two pins served sets roms address levels = refl

pub own_in_two : (pins : BoardPins) (served : ℕ) (sets roms : List ℕ) (set address : ℕ) (levels : SdrrCsSet)
    → mangle_own pins served sets roms set address levels ≡ mangled_by (governing_own pins.number served sets roms set) pins address levels
unfolding mangle_own
own_in_two pins served sets roms set address levels = refl

-- by the set's own ROMs, an accepted mangling is of a set that is served, with accepted pins
pub own_accepted : (pins : BoardPins) (served : ℕ) (sets roms : List ℕ) (set address : ℕ) (levels : SdrrCsSet)
    → (mangle_own pins served sets roms set address levels).number ≡ 0 → Governs pins.number served sets roms set
unfolding mangle_own
own_accepted pins served sets roms set address levels e =
    own_governs pins.number served sets roms set (mangled_governed (governing_own pins.number served sets roms set) pins address levels e)
