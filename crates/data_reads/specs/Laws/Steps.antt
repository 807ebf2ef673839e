-- ROM data, outcome by outcome: what the proofs of the code cite.
-- Assumes nothing.
use Rattle.std.specs.Prelude.{ℕ, ◌+◌, ◌≤◌, ◌<◌, ◌≡◌, true, false, List, ltb, eqb, length, take, drop}
use Rattle.std.proofs.Common.{arith, sym, ap, ◌∙◌}
use Rattle.std.proofs.Math.Path.{refl}
use borrow.Author.Tests.{ltb-true, ltb-false, lt-ltb, le-ltb, eqb-true, eqb-false, eq-eqb, ne_eqb}
use Rattle.base.specs.Laws.{cases}
use Rattle.window.specs.Window.{base_after, beyond_window}
use Rattle.info.specs.Lent.{Lent}
use Rattle.info.specs.Reads.{count_number, range, stored_p, finished, Reply, read_reply, refused_reply, rom_read, buffer_left}
use Rattle.set_data.specs.declared.SetData.{SetData}
use Rattle.set_data.specs.declared.Found.{Found}
use Rattle.set_data.specs.Code.{set_data, not_found, found_of}
use Rattle.info.proofs.Laws.Calls.{read_beyond, read_within}
use Rattle.set_data.specs.Laws.{Stands, found_stands, stands_inside, bytes_at, data_found}
use Rattle.data_reads.specs.Code.{placed_of}

-- a refused call leaves the buffer as it was
pub left_as_was : (n count : ℕ) (lent : List ℕ) → (n ≡ 0 → ⊥) → buffer_left (refused_reply n count) lent ≡ lent
left_as_was n count lent h = rw (ne_eqb n 0 h)

module _ (flash_base cs0_base : ℕ) (l : Lent) (set offset n : ℕ) (x : List ℕ) where
  pub placed_beyond : beyond_window flash_base cs0_base x ≡ true → placed_of flash_base cs0_base l set offset n x ≡ not_found 1
  unfolding placed_of
  placed_beyond e = rw e

  pub placed_within : beyond_window flash_base cs0_base x ≡ false → (base : ℕ) → base ≡ base_after flash_base cs0_base l.line → (d : SetData) → d ≡ set_data l.served l.set_words set
      → placed_of flash_base cs0_base l set offset n x ≡ found_of x base d offset n
  unfolding placed_of
  placed_within e base in_force d of_set = rw (e, in_force, of_set)

  placed_data : (count : ℕ)
      → rom_read flash_base cs0_base l count (range set offset n) x
      ≡ read_reply count (range set offset n) (finished l count (range set offset n) (bytes_at x n (placed_of flash_base cs0_base l set offset n x)))
  unfolding stored_p finished
  placed_data count =
      cases (beyond_window flash_base cs0_base x)
      (λ h. read_beyond flash_base cs0_base l count x (range set offset n) h ∙ rw (placed_beyond h))
      (λ h. read_within flash_base cs0_base l count x (range set offset n) h ∙ rw (placed_within h _ refl _ refl, data_found x (base_after flash_base cs0_base l.line) l.served l.set_words set offset n))

  -- the bytes as the code has placed them
  module _ (f : Found) (placed : f ≡ placed_of flash_base cs0_base l set offset n x) where
    pub placed_stands : f.number ≡ 0 → Stands x (base_after flash_base cs0_base l.line) (set_data l.served l.set_words set) offset n f
    placed_stands e =
        cases (beyond_window flash_base cs0_base x)
        (λ h. let z : ◌≡◌ {A = ℕ} 1 0 = ap (λ (g : Found). g.number) (sym (placed ∙ placed_beyond h)) ∙ e in absurd (omega arith))
        (λ h. found_stands x (base_after flash_base cs0_base l.line) (set_data l.served l.set_words set) offset n f (placed ∙ placed_within h _ refl _ refl) e)

    pub placed_inside : f.number ≡ 0 → f.at + n ≤ length x
    placed_inside e = stands_inside x (base_after flash_base cs0_base l.line) (set_data l.served l.set_words set) offset n f (placed_stands e)

    module _ (count : ℕ) where
      data_by : rom_read flash_base cs0_base l count (range set offset n) x ≡ read_reply count (range set offset n) (finished l count (range set offset n) (bytes_at x n f))
      data_by = rw placed (placed_data count)

      pub data_refused : (f.number ≡ 0 → ⊥) → rom_read flash_base cs0_base l count (range set offset n) x ≡ refused_reply f.number count
      unfolding finished
      data_refused h = let i = ne_eqb f.number 0 h in data_by ∙ simp i

      pub data_82 : f.number ≡ 0 → 4294967295 < count + n → rom_read flash_base cs0_base l count (range set offset n) x ≡ refused_reply 82 count
      unfolding finished count_number
      data_82 h i = data_by ∙ rw (eq-eqb f.number 0 h, lt-ltb 4294967295 (count + n) i)

      pub data_read_is : f.number ≡ 0 → count + n ≤ 4294967295
          → rom_read flash_base cs0_base l count (range set offset n) x ≡ record { number = 0; bytes = take n (drop f.at x); count = count + n }
      unfolding finished count_number
      data_read_is h i = data_by ∙ rw (eq-eqb f.number 0 h, le-ltb 4294967295 (count + n) i)

      -- an accepted call: the bytes are placed, and the count has room
      pub data_accepted : (rom_read flash_base cs0_base l count (range set offset n) x).number ≡ 0
          → (f.number ≡ 0) × (rom_read flash_base cs0_base l count (range set offset n) x ≡ record { number = 0; bytes = take n (drop f.at x); count = count + n })
      data_accepted e =
          cases (eqb f.number 0)
          (λ i.
          let there = eqb-true f.number 0 i in
          cases (ltb 4294967295 (count + n))
          (λ j. let z : ◌≡◌ {A = ℕ} 82 0 = ap (λ (r : Reply). r.number) (sym (data_82 there (ltb-true 4294967295 (count + n) j))) ∙ e in absurd (omega arith))
          (λ j. (there, data_read_is there (ltb-false 4294967295 (count + n) j))))
          (λ i. let none = eqb-false f.number 0 i in absurd (none (ap (λ (r : Reply). r.number) (sym (data_refused none)) ∙ e)))
