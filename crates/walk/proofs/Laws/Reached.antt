-- Document 02, wish 2: the running total of the passes' loops is the walk's own, the sum of the counts of the sets that the walk as defined has
-- passed. A walk reaches set i where the walk over the i sets before it is accepted; it may be refused later.
-- Assumes nothing.
use Prim.Native.Nat.{ℕ, zero, suc, ◌+◌, ◌-◌, ◌<◌}
use Rattle.std.proofs.Common.{arith, zero-add, suc-add, ◌∙◌, eqb-true, eq-eqb}
use Rattle.std.proofs.Math.Path.{◌≡◌, ap}
use Rattle.std.specs.Prelude.{refl, Bool, true, eqb, take}
use mathlib.Core.List.{List, [], ◌∷◌, ◌++◌, append_assoc, append-nil}
use Rattle.std.proofs.Math.Seq.{take-append_seam}
use Rattle.base.specs.Laws.{cases, clash}
use Rattle.window.specs.Window.{can_read, on_from}
use Rattle.prog.specs.Prog.{Prog, run, ◌>>=◌}
use Rattle.prog.proofs.Laws.Run.{run_bind, run_got}
use Rattle.rows.specs.LentRows.{first_rom}
use Rattle.header.specs.declared.SdrrInfoFields.{SdrrInfoFields}
use Rattle.version.specs.Version.{from060}
use Rattle.header.specs.Header.{has_filenames}
use Rattle.walk.specs.Walk.{RomSet, Part, stop, found, or_stop, set_p, stride, roms_of, sets_p, walk_p}
use Rattle.walk.specs.Rows.{counts_of, set_rows_of}
use Rattle.walk.specs.Code.Passes.{or_next, part_number, one_set_number, set_at, stride_of, after, set_address, sets_number, sets_at}
use Rattle.walk.proofs.Laws.Passes.{sets_length}
use Rattle.walk.proofs.Laws.Rows.{first_rom_row}
use Rattle.walk.proofs.Laws.Says.{Says, accepts, refuses, set_front, stride_front, set_tells, sets_tells, walk_tells}
use Rattle.walk.proofs.Laws.Total.{sets_split}

-- a part that says 0 has found what it says
zero_found : {A : Type 0} {a : A} {n : ℕ} {p : Part A} → Says a n p → n ≡ 0 → p ≡ found a
zero_found accepts e = refl
zero_found (refuses h) e = absurd (h e)

-- and one that has found something says 0, and this
found_zero : {A : Type 0} {a b : A} {n : ℕ} → Says a n (found b) → (n ≡ 0) × (a ≡ b)
found_zero accepts = (refl, refl)

both_none : (n m : ℕ) → or_next n m ≡ 0 → (n ≡ 0) × (m ≡ 0)
both_none n m e = cases (eqb n 0) (λ h. (eqb-true n 0 h, rw h at e)) (λ h. let z : n ≡ 0 = rw h at e in let t = eq-eqb n 0 z in clash (cc))

-- the number of a walk that reaches set i is that of the sets from it on
pub number_reached : (x : List ℕ) (base : ℕ) (filenames long : Bool) (i pointer k : ℕ) → sets_number x base filenames long pointer i ≡ 0
    → sets_number x base filenames long pointer (i + k) ≡ sets_number x base filenames long (set_address x base long pointer i) k
unfolding sets_number set_address
number_reached x base filenames long zero pointer k e = rw zero-add
number_reached x base filenames long (suc i) pointer k e =
    let h = both_none (one_set_number x base filenames pointer) _ e in
    rw (suc-add i k, h.0) (number_reached x base filenames long i (after x base long pointer) k h.1)

module _ (x : List ℕ) (base : ℕ) (f : SdrrInfoFields) where
  abbrev sets_before : ℕ → ℕ → List RomSet
  sets_before pointer i = sets_at x base (has_filenames f) (from060 f.version) pointer i

  abbrev address : ℕ → ℕ → ℕ
  address pointer i = set_address x base (from060 f.version) pointer i

  -- a set that is accepted is passed
  one_passed : (left a : ℕ) (passed : List RomSet) → one_set_number x base (has_filenames f) a ≡ 0
      → run (sets_p (suc left) base f a passed) x ≡ run (sets_p left base f (after x base (from060 f.version) a) (passed ++ (set_at x base (has_filenames f) a ∷ []))) x
  unfolding sets_p one_set_number set_at on_from
  one_passed left a passed e = cases (can_read x base a 64) (λ h. good h (rw h at e)) (λ h. let z : ◌≡◌ {A = ℕ} 2 0 = rw h at e in absurd (omega arith))
    where
      l : List ℕ
      l = on_from x base a

      go_on : ℕ → RomSet → Prog (Part (List RomSet))
      go_on d set = sets_p left base f (a + d) (passed ++ (set ∷ []))

      good : can_read x base a 64 ≡ true → part_number x base (has_filenames f) l ≡ 0
          → run (sets_p (suc left) base f a passed) x ≡ run (go_on (stride_of (from060 f.version) l) (set_at x base (has_filenames f) a)) x
      good h p =
          run_got x base a 64 (stop 2 (roms_of passed)) (λ s. set_p base (has_filenames f) s >>= or_stop (roms_of passed) (go_on (stride f s))) h
          ∙ rw (set_front l base (has_filenames f), stride_front l f)
          (run_bind x (set_p base (has_filenames f) l) (or_stop (roms_of passed) (go_on (stride_of (from060 f.version) l)))
          ∙ rw (zero_found (set_tells x base (has_filenames f) l).says p))

  passed_on : (i left pointer : ℕ) (passed : List RomSet) → sets_number x base (has_filenames f) (from060 f.version) pointer i ≡ 0
      → run (sets_p (i + left) base f pointer passed) x ≡ run (sets_p left base f (address pointer i) (passed ++ sets_before pointer i)) x
  unfolding sets_number sets_at set_address
  passed_on zero left pointer passed e = rw (zero-add, append-nil passed)
  passed_on (suc i) left pointer passed e =
      let h = both_none _ _ e in
      let next = after x base (from060 f.version) pointer in
      rw (suc-add i left) (one_passed (i + left) pointer passed h.0 ∙ passed_on i left next (passed ++ (set_at x base (has_filenames f) pointer ∷ [])) h.1
      ∙ ap (λ (l : List RomSet). run (sets_p left base f (address next i) l) x) (append_assoc passed (set_at x base (has_filenames f) pointer ∷ []) (sets_before next i)))

  -- Where the first pass has number 0 for i sets, the walk reaches set i, and these are the sets before it.
  pub walk_reaches : (i pointer : ℕ) → sets_number x base (has_filenames f) (from060 f.version) pointer i ≡ 0 → run (sets_p i base f pointer []) x ≡ found (sets_before pointer i)
  walk_reaches i pointer e = zero_found (sets_tells x i base f pointer []).says e

  module _ (i pointer : ℕ) (earlier : List RomSet) (h : run (sets_p i base f pointer []) x ≡ found earlier) where
    told : (sets_number x base (has_filenames f) (from060 f.version) pointer i ≡ 0) × (sets_before pointer i ≡ earlier)
    told = found_zero (rw h at (sets_tells x i base f pointer []).says)

    -- Whichever walk reaches set i, it goes on from there with the earlier sets passed, and the total is the sum of their counts.
    pub reached : (left : ℕ) → run (sets_p (i + left) base f pointer []) x ≡ run (sets_p left base f (address pointer i) earlier) x
    reached left = rw (← told.1) (passed_on i left pointer [] told.0)

    pub total_reached : counts_of (sets_before pointer i) ≡ counts_of earlier
    total_reached = ap counts_of told.1

  -- In an accepted walk each set's first ROM row is the total before it.
  pub first_row_total : (count pointer i : ℕ) (ss : List RomSet) → run (walk_p base f count pointer) x ≡ found ss → i < count → first_rom (set_rows_of ss) i ≡ counts_of (sets_before pointer i)
  first_row_total count pointer i ss h l =
      let e : sets_before pointer count ≡ ss = (found_zero (rw h at (walk_tells x base f count pointer).says)).1 in
      let n = sets_length x base (has_filenames f) (from060 f.version) pointer count in
      let k : i + (count - i) ≡ count = omega arith in
      let later = sets_before (address pointer i) (count - i) in
      let s : sets_before pointer count ≡ sets_before pointer i ++ later = rw k at (sets_split x base (has_filenames f) (from060 f.version) i pointer (count - i)) in
      let t : take i (sets_before pointer count) ≡ sets_before pointer i =
      rw s (rw (sets_length x base (has_filenames f) (from060 f.version) pointer i) at (take-append_seam (sets_before pointer i) later)) in
      rw (← e) (first_rom_row (sets_before pointer count) i (rw n l) ∙ ap counts_of t)
