-- What a read needs of a set and where its bytes stand, outcome by outcome: what the proofs of the code cite.
-- Assumes nothing.
use Rattle.std.specs.Prelude.{ℕ, ◌+◌, ◌-◌, ◌≤◌, ◌<◌, Bool, true, false, not, List, ltb, eqb, length, take, drop}
use Rattle.std.proofs.Common.{arith, ◌∙◌}
use Rattle.std.proofs.Math.Path.{◌≡◌, refl}
use borrow.Author.Tests.{ltb-false, lt-ltb, le-ltb, eqb-false, eq-eqb, ne_eqb}
use Rattle.base.specs.Laws.{cases}
use Rattle.base.specs.Choice.{pick}
use Rattle.window.specs.Window.{can_read}
use Rattle.window.specs.Laws.{Inside, true_inside}
use Rattle.prog.specs.Prog.{done, fetch, run}
use Rattle.prog.proofs.Laws.Run.{run_done, run_failed, run_got}
use Rattle.rows.specs.LentRows.{set_number, data_pointer, size_of}
use Rattle.set_data.specs.Data.{unvalued, size_call, Bytes, no_bytes, data_p}
use Rattle.set_data.specs.declared.SetData.{SetData}
use Rattle.set_data.specs.declared.Found.{Found}
use Rattle.set_data.specs.Code.{set_data, not_found, found_of}

-- ---- size

module _ (served : ℕ) (sets : List ℕ) (set : ℕ) where
  pub size_refused : (set_number served sets set ≡ 0 → ⊥) → size_call served sets set ≡ unvalued (set_number served sets set)
  unfolding size_call
  size_refused h = rw (ne_eqb (set_number served sets set) 0 h)

  pub size_given : set_number served sets set ≡ 0 → size_call served sets set ≡ record { number = 0; value = size_of sets set }
  unfolding size_call
  size_given h = rw (eq-eqb (set_number served sets set) 0 h)

-- ---- where bytes are found

module _ (x : List ℕ) (base : ℕ) (d : SetData) (offset n : ℕ) where
  pub found_no_set : (d.number ≡ 0 → ⊥) → found_of x base d offset n ≡ not_found d.number
  unfolding found_of
  found_no_set h = rw (ne_eqb d.number 0 h)

  pub found_81 : d.number ≡ 0 → d.size < offset + n → found_of x base d offset n ≡ not_found 81
  unfolding found_of
  found_81 h i = rw (eq-eqb d.number 0 h, lt-ltb d.size (offset + n) i)

  pub found_ended : d.number ≡ 0 → offset + n ≤ d.size → can_read x base (d.pointer + offset) n ≡ false → found_of x base d offset n ≡ not_found 2
  unfolding found_of
  found_ended h i j = rw (eq-eqb d.number 0 h, le-ltb d.size (offset + n) i, j)

  pub found_there : d.number ≡ 0 → offset + n ≤ d.size → can_read x base (d.pointer + offset) n ≡ true
      → found_of x base d offset n ≡ record { number = 0; at = d.pointer + offset - base }
  unfolding found_of
  found_there h i j = rw (eq-eqb d.number 0 h, le-ltb d.size (offset + n) i, j)

  -- where they are found, they lie in the set and in the image
  pub record Stands (f : Found) : Type 0 where
    pub in_set : offset + n ≤ d.size
    pub readable : Inside x base (d.pointer + offset) n
    pub starts : f.at ≡ d.pointer + offset - base

  pub found_stands : (f : Found) → f ≡ found_of x base d offset n → f.number ≡ 0 → Stands f
  unfolding found_of
  found_stands f v z = rw v (go (rw v at z))
    where
      go : (found_of x base d offset n).number ≡ 0 → Stands (found_of x base d offset n)
      go e =
          cases (eqb d.number 0)
          (λ h.
          cases (ltb d.size (offset + n))
          (λ i. let y : ◌≡◌ {A = ℕ} 81 0 = rw (h, i) at e in absurd (omega arith))
          (λ i.
          cases (can_read x base (d.pointer + offset) n)
          (λ j. rw (h, i, j) (record { in_set = ltb-false d.size (offset + n) i; readable = true_inside x base (d.pointer + offset) n j; starts = refl }))
          (λ j. let y : ◌≡◌ {A = ℕ} 2 0 = rw (h, i, j) at e in absurd (omega arith))))
          (λ h. absurd (eqb-false d.number 0 h (rw h at e)))

  pub stands_inside : (f : Found) → Stands f → f.at + n ≤ length x
  stands_inside f s = let i = s.readable in omega (arith, s.starts)

-- ---- ROM data

-- the bytes that are found
abbrev pub bytes_at : List ℕ → ℕ → Found → Bytes
bytes_at x n f = pick (eqb f.number 0) (record { number = 0; bytes = take n (drop f.at x) }) (no_bytes f.number)

pub data_found : (x : List ℕ) (base served : ℕ) (sets : List ℕ) (set offset n : ℕ)
    → run (data_p base served sets set offset n) x ≡ bytes_at x n (found_of x base (set_data served sets set) offset n)
unfolding data_p found_of
data_found x base served sets set offset n = go (set_number served sets set) (ltb (size_of sets set) (offset + n)) (data_pointer sets set + offset)
  where
    go : (k : ℕ) (b : Bool) (a : ℕ)
        → run (pick (not (eqb k 0)) (done (no_bytes k)) (pick b (done (no_bytes 81)) (fetch base a n (no_bytes 2) λ bs. done (record { number = 0; bytes = bs })))) x
        ≡ bytes_at x n (pick (not (eqb k 0)) (not_found k) (pick b (not_found 81) (pick (can_read x base a n) (record { number = 0; at = a - base }) (not_found 2))))
    go k b a =
        cases (eqb k 0)
        (λ h. rw h
        (cases b
        (λ i. rw i (run_done x (no_bytes 81)))
        (λ i. rw i
        (cases (can_read x base a n)
        (λ j. rw j (run_got x base a n (no_bytes 2) _ j ∙ run_done x _))
        (λ j. rw j (run_failed x base a n (no_bytes 2) _ j))))))
        (λ h. rw (h, h) (run_done x (no_bytes k)))
