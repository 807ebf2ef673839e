-- What holds of a run, form by form: of its answer, of how many reads it tries, and of both together.
use Rattle.std.specs.Prelude.{ℕ, suc, ◌+◌, ◌-◌, ◌≤◌, ◌≡◌, refl, Bool, true, false, List, take, drop}
use Rattle.std.proofs.Common.{arith, add-zero, zero-add, add_assoc}
use Rattle.base.specs.Choice.{pick}
use Rattle.window.specs.Window.{can_read}
use Rattle.prog.specs.Prog.{Prog, done, read, unshown, ◌>>=◌, map_p, fetch, aside, answer, run, tried, tried_shown}
use Rattle.prog.proofs.Laws.Run.{run_done, run_got, run_failed, run_bind, run_map, run_aside, tried_done, tried_got, tried_failed, tried_bind, tried_map, tried_aside}

-- shown reads are among those tried
pub shown_tried : {A : Type 0} (x : List ℕ) (p : Prog A) → tried_shown p x ≤ tried p x
unfolding tried tried_shown
shown_tried x (done a) = omega arith
shown_tried x (read base a n k) = let h = shown_tried x (k (answer x base a n)) in omega arith
shown_tried x (unshown r p) = let h = shown_tried x p in omega arith

-- ---- P holds of the answer on x

pub record Holds {A : Type 0} (x : List ℕ) (P : A → Type 0) (p : Prog A) : Type 0 where
  pub holds : P (run p x)

module _ {A : Type 0} {x : List ℕ} {P : A → Type 0} where
  pub holds_run : {p : Prog A} → Holds x P p → P (run p x)
  holds_run h = h.holds

  pub holds_done : {a : A} → P a → Holds x P (done a)
  holds_done {a} h = record { holds = rw (run_done x a) h }

  pub holds_fetch : {base a n : ℕ} {k : List ℕ → Prog A} (e : A) → (can_read x base a n ≡ false → P e)
      → (can_read x base a n ≡ true → Holds x P (k (take n (drop (a - base) x)))) → Holds x P (fetch base a n e k)
  holds_fetch {base} {a} {n} {k} e h i = go (can_read x base a n) refl
    where
      go : (b : Bool) → can_read x base a n ≡ b → Holds x P (fetch base a n e k)
      go false c = record { holds = rw (run_failed x base a n e k c) (h c) }
      go true c = record { holds = rw (run_got x base a n e k c) (i c).holds }

  pub holds_pick : {p q : Prog A} (b : Bool) → (b ≡ true → Holds x P p) → (b ≡ false → Holds x P q) → Holds x P (pick b p q)
  holds_pick true h i = h refl
  holds_pick false h i = i refl

  pub holds_aside : {B : Type 0} {p : Prog A} (r : Prog B) → Holds x P p → Holds x P (aside r p)
  holds_aside {p} r h = record { holds = rw (run_aside x r p) h.holds }

  pub holds_bind : {B : Type 0} {p : Prog B} {f : B → Prog A} → Holds x (λ b. Holds x P (f b)) p → Holds x P (p >>= f)
  holds_bind {p} {f} h = record { holds = rw (run_bind x p f) h.holds.holds }

  pub holds_map : {B : Type 0} {p : Prog B} (f : B → A) → Holds x (λ b. P (f b)) p → Holds x P (map_p f p)
  holds_map {p} f h = record { holds = rw (run_map x f p) h.holds }

-- ---- P holds of the answer on x and of the number of reads, where m were tried before

pub record Spent {A : Type 0} (x : List ℕ) (P : A → ℕ → Type 0) (m : ℕ) (p : Prog A) : Type 0 where
  pub spent : P (run p x) (m + tried p x)

module _ {A : Type 0} {x : List ℕ} {P : A → ℕ → Type 0} where
  pub spent_run : {p : Prog A} → Spent x P 0 p → P (run p x) (tried p x)
  spent_run {p} h = rw (zero-add (tried p x)) at h.spent

  pub spent_done : {m : ℕ} {a : A} → P a m → Spent x P m (done a)
  spent_done {m} {a} h = record { spent = rw (run_done x a, tried_done x a, add-zero m) h }

  pub spent_fetch : {m base a n : ℕ} {k : List ℕ → Prog A} (e : A) → (can_read x base a n ≡ false → P e (m + 1))
      → (can_read x base a n ≡ true → Spent x P (m + 1) (k (take n (drop (a - base) x)))) → Spent x P m (fetch base a n e k)
  spent_fetch {m} {base} {a} {n} {k} e h i = go (can_read x base a n) refl
    where
      go : (b : Bool) → can_read x base a n ≡ b → Spent x P m (fetch base a n e k)
      go false c = record { spent = rw (run_failed x base a n e k c, tried_failed x base a n e k c) (h c) }
      go true c =
          let q = k (take n (drop (a - base) x)) in
          let s : m + 1 + tried q x ≡ m + suc (tried q x) = omega arith in
          record { spent = rw (run_got x base a n e k c, tried_got x base a n e k c, ← s) (i c).spent }

  pub spent_pick : {m : ℕ} {p q : Prog A} (b : Bool) → (b ≡ true → Spent x P m p) → (b ≡ false → Spent x P m q) → Spent x P m (pick b p q)
  spent_pick true h i = h refl
  spent_pick false h i = i refl

  pub spent_aside : {m : ℕ} {B : Type 0} {p : Prog A} (r : Prog B) → Spent x P (m + tried r x) p → Spent x P m (aside r p)
  spent_aside {m} {p = p} r h = record { spent = rw (run_aside x r p, tried_aside x r p, ← add_assoc m (tried r x) (tried p x)) h.spent }

  pub spent_bind : {m : ℕ} {B : Type 0} {p : Prog B} {f : B → Prog A} → Spent x (λ b j. Spent x P j (f b)) m p → Spent x P m (p >>= f)
  spent_bind {m} {p = p} {f = f} h = record { spent = rw (run_bind x p f, tried_bind x p f, ← add_assoc m (tried p x) (tried (f (run p x)) x)) h.spent.spent }

  pub spent_map : {m : ℕ} {B : Type 0} {p : Prog B} (f : B → A) → Spent x (λ b. P (f b)) m p → Spent x P m (map_p f p)
  spent_map {p = p} f h = record { spent = rw (run_map x f p, tried_map x f p) h.spent }

-- ---- at most m reads are tried, on every image

pub record Within {A : Type 0} (m : ℕ) (p : Prog A) : Type 0 where
  pub within : (x : List ℕ) → tried p x ≤ m

module _ {A : Type 0} where
  pub within_tried : {m : ℕ} {p : Prog A} → Within m p → (x : List ℕ) → tried p x ≤ m
  within_tried h x = h.within x

  pub within_done : {m : ℕ} {a : A} → Within m (done a)
  within_done {a = a} = record { within = λ x. rw (tried_done x a) (omega arith) }

  pub within_fetch : {m base a n : ℕ} {k : List ℕ → Prog A} (e : A) → ((bs : List ℕ) → Within m (k bs)) → Within (suc m) (fetch base a n e k)
  within_fetch {m} {base} {a} {n} {k} e h = record { within = λ x. go x (can_read x base a n) refl }
    where
      go : (x : List ℕ) (b : Bool) → can_read x base a n ≡ b → tried (fetch base a n e k) x ≤ suc m
      go x false c = rw (tried_failed x base a n e k c) (omega arith)
      go x true c = rw (tried_got x base a n e k c) (let i = (h (take n (drop (a - base) x))).within x in omega arith)

  pub within_pick : {m : ℕ} {p q : Prog A} (b : Bool) → Within m p → Within m q → Within m (pick b p q)
  within_pick true h i = h
  within_pick false h i = i

  pub within_mono : {i m : ℕ} {p : Prog A} → i ≤ m → Within i p → Within m p
  within_mono l h = record { within = λ x. let i = h.within x in omega arith }

module _ {A B : Type 0} {j : ℕ} {p : Prog B} where
  pub within_aside : {m : ℕ} {q : Prog A} → Within j p → Within m q → Within (j + m) (aside p q)
  within_aside {q} h i = record { within = λ x. rw (tried_aside x p q) (omega (arith, h.within x, i.within x)) }

  pub within_bind : {m : ℕ} {f : B → Prog A} → Within j p → ((b : B) → Within m (f b)) → Within (j + m) (p >>= f)
  within_bind {f} h i = record { within = λ x. rw (tried_bind x p f) (omega (arith, h.within x, (i (run p x)).within x)) }

  pub within_map : (f : B → A) → Within j p → Within j (map_p f p)
  within_map f h = record { within = λ x. rw (tried_map x f p) (h.within x) }

-- the forms that readers are made of, for `search`
pub ruleset bounds = (within_done, within_fetch, within_pick, within_aside, within_bind, within_map)

pub ruleset holding = (holds_done, holds_fetch, holds_pick, holds_aside, holds_bind, holds_map)

pub ruleset spending = (spent_done, spent_fetch, spent_pick, spent_aside, spent_bind, spent_map)
