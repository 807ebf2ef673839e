-- What the code's tests say of the passes' definitions, step by step.
-- Assumes nothing.
use Prim.Native.Nat.{ℕ, suc, ◌+◌, ◌-◌, ◌*◌, ◌≤◌, ◌<◌}
use native.Mathlib.Omega.{arith}
use mathlib.Core.Path.{◌≡◌, sym, ◌∙◌}
use mathlib.Core.Bool.{Bool}
use mathlib.Core.List.{List}
use borrow.Author.Tests.{eq-eqb, ne_eqb, lt-ltb, le-ltb}
use Rattle.refusal.specs.declared.Refusal.{Refusal}
use Rattle.refusal.specs.Refusal.{number_of}
use Rattle.prog.specs.Prog.{run}
use Rattle.walk.specs.Walk.{walk_p}
use Rattle.header.specs.declared.SdrrInfoFields.{SdrrInfoFields}
use Rattle.version.specs.Version.{from060}
use Rattle.header.specs.Header.{has_filenames}
use Rattle.walk.proofs.Laws.Passes.{roms_in, no_roms}
use Rattle.set_header.specs.Laws.{stride_bound}
use Rattle.walk.proofs.Laws.Total.{address_bound, address_step, total_step, total_roms}
use Rattle.walk.proofs.Laws.Reached.{number_reached}
use Rattle.judge_walk.specs.Code.{Walked, refused_walk, walked, judged_of, walked_good, walked_bad}
use Rattle.judge_walk.proofs.Laws.{walk_judged}
use Rattle.walk.specs.Code.Passes.{or_next, rom_number, roms_number, one_set_number, after, set_address, sets_number, walk_number}

-- no refusal has number 0
pub not_0 : (r : Refusal) → number_of r ≡ 0 → ⊥
not_0 r e = grind arith

-- ---- one part after the other

next_stops : {n : ℕ} (m : ℕ) → (n ≡ 0 → ⊥) → n ≡ or_next n m
next_stops {n} m h = rw (ne_eqb n 0 h)

next_goes : {n m : ℕ} → n ≡ 0 → m ≡ or_next n m
next_goes {n} h = rw (eq-eqb n 0 h)

-- ---- so many ROMs

module _ (x : List ℕ) (base : ℕ) (filenames : Bool) (table count k : ℕ) where
  -- what is left of a table from ROM k on
  abbrev left : ℕ → ℕ
  left k = roms_number x base filenames (table + 4 * k) (count - k)

  pub roms_none : count ≤ k → 0 ≡ left k
  unfolding roms_number
  roms_none h = let e : count - k ≡ 0 = omega arith in rw e

  module _ (h : k < count) (n : ℕ) (e : n ≡ rom_number x base filenames (table + 4 * k)) where
    step : left k ≡ or_next n (left (k + 1))
    unfolding roms_number
    step =
        let f : count - k ≡ suc (count - (k + 1)) = omega arith in
        let g : table + 4 * k + 4 ≡ table + 4 * (k + 1) = omega arith in
        rw (f, e, ← g)

    pub roms_stop : (n ≡ 0 → ⊥) → n ≡ left k
    roms_stop f = next_stops _ f ∙ sym step

    pub roms_next : n ≡ 0 → left (k + 1) ≡ left k
    roms_next f = next_goes f ∙ sym step

pub ruleset roms_steps = (roms_none, roms_stop, roms_next, not_0)

-- ---- so many sets

-- set i, which the walk has reached, and its number
module _ (x : List ℕ) (base : ℕ) (filenames long : Bool) (pointer i address : ℕ) (z : sets_number x base filenames long pointer i ≡ 0)
    (v : address ≡ set_address x base long pointer i) (n : ℕ) (e : n ≡ one_set_number x base filenames address) where
  sets_step : (k : ℕ) → sets_number x base filenames long pointer (i + suc k) ≡ or_next n (sets_number x base filenames long (after x base long address) k)
  unfolding sets_number
  sets_step k = rw (e, v) (number_reached x base filenames long i pointer (suc k) z)

  pub sets_stop : (count : ℕ) → i < count → (n ≡ 0 → ⊥) → (roms : ℕ) → refused_walk n ≡ walked (sets_number x base filenames long pointer count) roms
  sets_stop count h f roms =
      let k : i + suc (count - i - 1) ≡ count = omega arith in
      walked_bad _ roms n (next_stops _ f ∙ sym (rw k at (sets_step (count - i - 1)))) f

  pub sets_next : n ≡ 0 → sets_number x base filenames long pointer (i + 1) ≡ 0
  unfolding sets_number
  sets_next f = sets_step 0 ∙ rw f

pub ruleset sets_steps = (sets_stop, sets_next, not_0, walked_good, stride_bound, address_bound, address_step, total_step, total_roms)

-- ---- the walk

module _ (x : List ℕ) (base : ℕ) (f : SdrrInfoFields) (count pointer : ℕ) where
  -- the number of the walk
  abbrev pub number_at : ℕ
  number_at = walk_number x base (has_filenames f) (from060 f.version) count pointer

  none : count ≡ 0 → 0 ≡ number_at
  unfolding walk_number
  none e = rw (eq-eqb count 0 e)

  below : (count ≡ 0 → ⊥) → pointer < base → 3 ≡ number_at
  unfolding walk_number
  below e h = rw (ne_eqb count 0 e, lt-ltb pointer base h)

  judged : (count ≡ 0 → ⊥) → base ≤ pointer → sets_number x base (has_filenames f) (from060 f.version) pointer count ≡ number_at
  unfolding walk_number
  judged e h = rw (ne_eqb count 0 e, le-ltb pointer base h)

  pub walk_none : count ≡ 0 → record { number = 0; rom_count = 0 } ≡ judged_of (run (walk_p base f count pointer) x)
  walk_none e = walked_good _ _ _ (none e) (sym (no_roms x base (has_filenames f) (from060 f.version) pointer count e)) ∙ walk_judged x base f count pointer

  pub walk_below : (count ≡ 0 → ⊥) → pointer < base → record { number = 3; rom_count = 0 } ≡ judged_of (run (walk_p base f count pointer) x)
  walk_below e h = walked_bad _ _ _ (below e h) (λ z. omega arith) ∙ walk_judged x base f count pointer

  pub walk_sets : (count ≡ 0 → ⊥) → base ≤ pointer → (filenames long : Bool) → filenames ≡ has_filenames f → long ≡ from060 f.version
      → (r : Walked) → r ≡ walked (sets_number x base filenames long pointer count) (roms_in x base filenames long pointer count)
      → r ≡ judged_of (run (walk_p base f count pointer) x)
  walk_sets e h filenames long v w r i = i ∙ rw (v, w, judged e h) (walk_judged x base f count pointer)

pub ruleset walk_steps = (walk_none, walk_below, walk_sets)
