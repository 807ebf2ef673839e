-- Document 01, "ROM data": a read on one count. An accepted one adds its length, within 32 bits; a refused one changes nothing.
-- Assumes nothing.
use Prim.Native.Nat.{ℕ, ◌+◌, ◌≤◌}
use native.Mathlib.Omega.{arith}
use Rattle.std.proofs.Common.{add-zero, sym, ap, ◌∙◌}
use Rattle.std.proofs.Math.Path.{◌≡◌, refl}
use Rattle.std.specs.Prelude.{Bool, not, List}
use Rattle.std.proofs.Math.Bool.{true, false}
use Rattle.std.proofs.Math.Dec.{ltb, eqb}
use borrow.Author.Tests.{ltb-false, eqb-true, eq-eqb, ne_eqb}
use Rattle.base.specs.Laws.{clash}
use Rattle.base.specs.Choice.{pick}
use Rattle.window.specs.Window.{base_after, beyond_window}
use Rattle.types.specs.declared.SdrrCsSet.{SdrrCsSet}
use Rattle.prog.specs.Prog.{run}
use Rattle.prog.proofs.Laws.Run.{run_map}
use Rattle.info.specs.Lent.{Lent}
use Rattle.info.specs.Reads.{Bytes, no_bytes, count_number, RomRead, own, length_of, stored_p, shown_of, finished, read_p, Reply, refused_reply, read_reply, rom_read, buffer_left, accepted_length}

module _ (flash_base cs0_base : ℕ) (l : Lent) (x : List ℕ) where
  -- one read: an accepted one adds its length, a refused one nothing
  pub count_step : (count : ℕ) (r : RomRead) → (rom_read flash_base cs0_base l count r x).count ≡ count + accepted_length (rom_read flash_base cs0_base l count r x).number r
  unfolding rom_read
  count_step count r =
      go (beyond_window flash_base cs0_base x) (run (read_p (base_after flash_base cs0_base l.line) l count r) x)
    where
      plain : (b : Bool) (n : ℕ) → pick b (count + n) count ≡ count + pick b n 0
      plain true n = refl
      plain false n = omega arith

      go : (b : Bool) (bs : Bytes)
          → (pick b (refused_reply 1 count) (read_reply count r bs)).count
          ≡ count + accepted_length (pick b (refused_reply 1 count) (read_reply count r bs)).number r
      go true bs = omega arith
      go false bs = plain (eqb bs.number 0) (length_of r)

  -- wish 1: a byte by the set's own ROMs counts 1
  pub own_counts : (count set address : ℕ) (levels : SdrrCsSet) → (rom_read flash_base cs0_base l count (own set address levels) x).number ≡ 0
      → (rom_read flash_base cs0_base l count (own set address levels) x).count ≡ count + 1
  own_counts count set address levels e = rw (eq-eqb (rom_read flash_base cs0_base l count (own set address levels) x).number 0 e) at (count_step count (own set address levels))

  -- 82 keeps it within 32 bits
  counted : (count : ℕ) (r : RomRead) (b : Bytes) → (finished l count r b).number ≡ 0 → count + length_of r ≤ 4294967295
  unfolding finished count_number
  counted count r b e = go (eqb b.number 0) (ltb 4294967295 (count + length_of r)) refl refl e
    where
      go : (c d : Bool) → eqb b.number 0 ≡ c → ltb 4294967295 (count + length_of r) ≡ d
          → (pick (not c) b (pick (not (eqb (pick d 82 0) 0)) (no_bytes (pick d 82 0)) (shown_of l r b))).number ≡ 0 → count + length_of r ≤ 4294967295
      go c false g h f = ltb-false 4294967295 (count + length_of r) h
      go true true g h f = let z : ◌≡◌ {A = ℕ} 82 0 = f in absurd (omega arith)
      go false true g h f = let y : eqb b.number 0 ≡ true = eq-eqb b.number 0 f in clash (cc)

  pub count_fits : (count : ℕ) (r : RomRead) → count ≤ 4294967295 → (rom_read flash_base cs0_base l count r x).count ≤ 4294967295
  unfolding rom_read read_p
  count_fits count r c =
      go (beyond_window flash_base cs0_base x)
    where
      base : ℕ
      base = base_after flash_base cs0_base l.line

      kept : (b : Bool) → eqb (run (read_p base l count r) x).number 0 ≡ b → pick b (count + length_of r) count ≤ 4294967295
      kept false h = c
      kept true h =
          counted count r (run (stored_p base l r) x) (ap (λ (t : Bytes). t.number) (sym (run_map x (finished l count r) (stored_p base l r))) ∙ eqb-true _ 0 h)

      go : (a : Bool) → (pick a (refused_reply 1 count) (read_reply count r (run (read_p base l count r) x))).count ≤ 4294967295
      go true = c
      go false = kept (eqb (run (read_p base l count r) x).number 0) refl

  -- ---- a refused read changes no byte of the buffer and no count

  pub record Unchanged (count : ℕ) (lent : List ℕ) (r : Reply) : Type 0 where
    pub count_kept : r.count ≡ count
    pub buffer_kept : buffer_left r lent ≡ lent

  pub refused_changes_nothing : (count : ℕ) (lent : List ℕ) (r : RomRead) → ((rom_read flash_base cs0_base l count r x).number ≡ 0 → ⊥) → Unchanged count lent (rom_read flash_base cs0_base l count r x)
  refused_changes_nothing count lent r h =
      let e = ne_eqb (rom_read flash_base cs0_base l count r x).number 0 h in
      record { count_kept = rw e at (count_step count r) ∙ add-zero count; buffer_kept = rw e }
