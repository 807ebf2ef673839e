-- Read programs over an image, and how they run: what a definition of a reader means.
use Rattle.std.specs.Prelude.{ℕ, suc, ◌+◌, ◌-◌, ◌≤◌, ◌<◌, max, ◌⊎◌, List, [], ◌∷◌, ltb, take, drop}
use Rattle.base.specs.Choice.{pick}
use Rattle.window.specs.Window.{can_read}

-- ---- programs

-- what a read gives: that it failed, or the bytes
pub data Answer : Type 0 where
  failed : Answer
  got : List ℕ → Answer

-- reads without a result: each answer decides only which reads follow
pub data Reads : Type 0 where
  no_more : Reads
  look : (base a n : ℕ) → (Answer → Reads) → Reads

-- a program gives its answer;
-- or reads n bytes at address a, with the base then in force, and goes on with what the read gave;
-- or makes reads that the report does not show, and goes on without what they gave
pub data Prog (A : Type 0) : Type 0 where
  done : A → Prog A
  read : (base a n : ℕ) → (Answer → Prog A) → Prog A
  unshown : Reads → Prog A → Prog A

-- one program, then the one that its answer chooses
infixl 1 ◌>>=◌
abbrev pub ◌>>=◌ : {A B : Type 0} → Prog A → (A → Prog B) → Prog B
◌>>=◌ (done a) f = f a
◌>>=◌ (read base a n k) f = read base a n (λ w. k w >>= f)
◌>>=◌ (unshown r p) f = unshown r (p >>= f)

-- one program, then the one that its answer chooses; both answers are kept
abbrev pub also : {A B : Type 0} → Prog A → (A → Prog B) → Prog (A × B)
also p f = p >>= λ a. f a >>= λ b. done (a, b)

-- the answer, passed on through a function
abbrev pub map_p : {A B : Type 0} → (A → B) → Prog A → Prog B
map_p f p = p >>= λ a. done (f a)

-- what is done with a read's answer: e where it failed, otherwise k with the bytes
abbrev pub or_else : {A : Type 0} → A → (List ℕ → Prog A) → Answer → Prog A
or_else e k failed = done e
or_else e k (got bs) = k bs

-- a read of n bytes at address a; where it fails the answer is e
abbrev pub fetch : {A : Type 0} → (base a n : ℕ) → A → (List ℕ → Prog A) → Prog A
fetch base a n e k = read base a n (or_else e k)

-- a record of n bytes at a pointer. 3: below base. 2: ended.
abbrev pub record_p : {A : Type 0} → (base pointer n : ℕ) → (refused : ℕ → A) → (List ℕ → A) → Prog A
record_p base pointer n refused rec_of = pick (ltb pointer base) (done (refused 3)) (fetch base pointer n (refused 2) λ s. done (rec_of s))

-- one row of reads after another
unfoldable pub and_then : Reads → Reads → Reads
and_then no_more s = s
and_then (look base a n k) s = look base a n (λ w. and_then (k w) s)

-- a program's reads, shown or not, its answer dropped
unfoldable pub reads_of : {A : Type 0} → Prog A → Reads
reads_of (done a) = no_more
reads_of (read base a n k) = look base a n (λ w. reads_of (k w))
reads_of (unshown r p) = and_then r (reads_of p)

-- the first program's reads are made and not shown, and its answer is dropped
-- (01, "Report": the names read in a refused walk)
abbrev pub aside : {A B : Type 0} → Prog B → Prog A → Prog A
aside p q = unshown (reads_of p) q

-- ---- a read

-- what a read gives on the image x: n bytes from offset a − base, where it succeeds
unfoldable pub answer : List ℕ → ℕ → ℕ → ℕ → Answer
answer x base a n = pick (can_read x base a n) (got (take n (drop (a - base) x))) failed

-- ---- a run

-- the answer
unfoldable pub run : {A : Type 0} → Prog A → List ℕ → A
run (done a) x = a
run (read base a n k) x = run (k (answer x base a n)) x
run (unshown r p) x = run p x

-- the bytes that a read takes: so many from an image offset
pub record Span : Type 0 where
  pub offset : ℕ
  pub size : ℕ

-- a failed read takes no byte
abbrev pub taken : Answer → Span → List Span → List Span
taken failed s t = t
taken (got bs) s t = s ∷ t

-- what the shown reads take, in order.
-- 01 coins "shown read" ("Report"): a read of the header or of an item, without names read in a refused walk
unfoldable pub trace : {A : Type 0} → Prog A → List ℕ → List Span
trace (done a) x = []
trace (read base a n k) x = taken (answer x base a n) (record { offset = a - base; size = n }) (trace (k (answer x base a n)) x)
trace (unshown r p) x = trace p x

-- how many reads are tried, failed ones too
unfoldable pub tried_reads : Reads → List ℕ → ℕ
tried_reads no_more x = 0
tried_reads (look base a n k) x = suc (tried_reads (k (answer x base a n)) x)

unfoldable pub tried : {A : Type 0} → Prog A → List ℕ → ℕ
tried (done a) x = 0
tried (read base a n k) x = suc (tried (k (answer x base a n)) x)
tried (unshown r p) x = tried_reads r x + tried p x

-- how many shown reads are tried, failed ones too
unfoldable pub tried_shown : {A : Type 0} → Prog A → List ℕ → ℕ
tried_shown (done a) x = 0
tried_shown (read base a n k) x = suc (tried_shown (k (answer x base a n)) x)
tried_shown (unshown r p) x = tried_shown p x

-- ---- the bytes taken (01, "Report")

-- the byte at offset i is taken
unfoldable pub Takes : List Span → ℕ → Type 0
Takes [] i = ⊥
Takes (s ∷ t) i = ((s.offset ≤ i) × (i < s.offset + s.size)) ⊎ Takes t i

-- just past the last byte taken; a read of no byte, as no opening makes, counts up to its offset
unfoldable pub end_of : List Span → ℕ
end_of [] = 0
end_of (s ∷ t) = max (s.offset + s.size) (end_of t)

-- demand 3 coins "reach": it ends after the last byte taken by a shown read
abbrev pub reach : {A : Type 0} → Prog A → List ℕ → ℕ
reach p x = end_of (trace p x)
