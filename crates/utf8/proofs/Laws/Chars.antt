-- What Sound rests on: the string test at each character of the grammar, and back from the test to the grammar.
use Rattle.std.specs.Prelude.{ℕ, zero, suc, ◌+◌, ◌-◌, ◌≤◌, ◌<◌, ◌≡◌, refl, List, [], ◌∷◌, ◌++◌, Bool, true, false, not, cond, ◌&&◌, T, leb, ltb, eqb}
use Rattle.std.proofs.Common.{◌∙◌, arith, eqb→eq, lit≤, leb-true, le-leb, ltb-true, ltb-false}
use Rattle.std.proofs.lemmas.Bool.{false≢true, lt-leb}
use Rattle.base.specs.Laws.{both_true}
use Rattle.utf8.specs.Utf8.{within, class_of, begins, low_after, high_after, lacking, is_utf8}
use Rattle.utf8.specs.Rfc3629.{Octet, Utf8Tail, x00_7f, xc2_df, xe0, xe1_ec, xed, xee_ef, xf0, xf1_f3, xf4, Utf8Char, one, two, three, four, Utf8Octets, none, char}

-- Tests: of both, of a range, of each number of a range.

pub t_both : (p q : Bool) → T (p && q) → T p × T q
t_both true q t = (tt, t)
t_both false q t = absurd t

t_not_true : (p : Bool) → T (not p) → p ≡ true → ⊥
t_not_true true t e = t
t_not_true false t e = false≢true e

pub in_within : {low high b : ℕ} → Octet low high b → within low high b ≡ true
in_within {low} {high} {b} i = rw (le-leb low b i.least, le-leb b high i.most)

pub within_in : (low high b : ℕ) → within low high b ≡ true → Octet low high b
within_in low high b e =
    let t = both_true (leb low b) (leb b high) e in
    record { least = leb-true low b t.0; most = leb-true b high t.1 }

above_within : (low high b : ℕ) → high < b → within low high b ≡ false
above_within low high b h = go (leb low b)
  where
    go : (t : Bool) → (t && leb b high) ≡ false
    go true = lt-leb b high h
    go false = refl

below : {A : Type 0} (a t : ℕ) → (a < t → A) → (t ≤ a → A) → A
below {A} a t f g = go (ltb a t) refl
  where
    go : (u : Bool) → ltb a t ≡ u → A
    go true e = f (ltb-true a t e)
    go false e = g (ltb-false a t e)

-- the test f passes at low and at the n numbers after it
abbrev pub passes : (ℕ → Bool) → ℕ → ℕ → Bool
passes f low zero = f low
passes f low (suc n) = f low && passes f (suc low) n

passed : (f : ℕ → Bool) (low n a : ℕ) → T (passes f low n) → low ≤ a → a ≤ low + n → T (f a)
passed f low zero a t p q = let e : a ≡ low = omega arith in rw e t
passed f low (suc n) a t p q =
    let u = t_both (f low) (passes f (suc low) n) t in
    below a (suc low) (λ h. let e : a ≡ low = omega arith in rw e u.0) (λ h. passed f (suc low) n a u.1 h (omega arith))

pub in_range : (f : ℕ → Bool) {low high a : ℕ} → Octet low high a → T (passes f low (high - low)) → T (f a)
in_range f {low} {high} {a} i t = passed f low (high - low) a t i.least (omega arith)

pub octet : (v : ℕ) → Octet v v v
octet v = omega arith

-- From the grammar to the test.

-- a is of class k
abbrev is_of : ℕ → ℕ → Bool
is_of k a = eqb (class_of a) k

-- after p a continuation byte is low..high
abbrev limits : ℕ → ℕ → ℕ → Bool
limits low high p = eqb (low_after p) low && eqb (high_after p) high

on_lead : (k : ℕ) {from to a : ℕ} → Octet from to a → T (passes (is_of k) from (to - from)) → (s : List ℕ) → is_utf8 (a ∷ s) ≡ (begins k && lacking (k - 1) a s)
unfolding is_utf8 lacking
on_lead k {a = a} i t s = rw (eqb→eq (class_of a) k (in_range (is_of k) i t))

on_tail : (n : ℕ) {from to p low high b : ℕ} → Octet from to p → Octet low high b → T (passes (limits low high) from (to - from))
    → (s : List ℕ) → lacking (suc n) p (b ∷ s) ≡ lacking n b s
unfolding lacking
on_tail n {p = p} {low = low} {high = high} i j t s =
    let u = t_both (eqb (low_after p) low) (eqb (high_after p) high) (in_range (limits low high) i t) in
    rw (eqb→eq (low_after p) low u.0, eqb→eq (high_after p) high u.1, in_within j)

-- where nothing is lacking, the byte before says nothing
anew : (p : ℕ) (s : List ℕ) → lacking 0 p s ≡ is_utf8 s
unfolding is_utf8 lacking
anew p [] = refl
anew p (a ∷ s) = refl

-- a character at the front does not change the test
pub on_char : {c : List ℕ} → Utf8Char c → (s : List ℕ) → is_utf8 (c ++ s) ≡ is_utf8 s
unfolding class_of low_after high_after
on_char (one (x00_7f i)) s = on_lead 1 i tt s ∙ anew _ s
on_char (two (xc2_df i p)) s = on_lead 2 i tt _ ∙ on_tail 0 i p tt s ∙ anew _ s
on_char (three (xe0 p q)) s = on_lead 3 (octet 0xE0) tt _ ∙ on_tail 1 (octet 0xE0) p tt _ ∙ on_tail 0 p q tt s ∙ anew _ s
on_char (three (xe1_ec i p q)) s = on_lead 3 i tt _ ∙ on_tail 1 i p tt _ ∙ on_tail 0 p q tt s ∙ anew _ s
on_char (three (xed p q)) s = on_lead 3 (octet 0xED) tt _ ∙ on_tail 1 (octet 0xED) p tt _ ∙ on_tail 0 p q tt s ∙ anew _ s
on_char (three (xee_ef i p q)) s = on_lead 3 i tt _ ∙ on_tail 1 i p tt _ ∙ on_tail 0 p q tt s ∙ anew _ s
on_char (four (xf0 p q r)) s =
    on_lead 4 (octet 0xF0) tt _ ∙ on_tail 2 (octet 0xF0) p tt _ ∙ on_tail 1 p q tt _ ∙ on_tail 0 q r tt s ∙ anew _ s
on_char (four (xf1_f3 i p q r)) s = on_lead 4 i tt _ ∙ on_tail 2 i p tt _ ∙ on_tail 1 p q tt _ ∙ on_tail 0 q r tt s ∙ anew _ s
on_char (four (xf4 p q r)) s =
    on_lead 4 (octet 0xF4) tt _ ∙ on_tail 2 (octet 0xF4) p tt _ ∙ on_tail 1 p q tt _ ∙ on_tail 0 q r tt s ∙ anew _ s

-- From the test to the grammar.

-- after any byte a continuation byte is UTF8-tail
low_least : (p : ℕ) → 0x80 ≤ low_after p
unfolding low_after
low_least p = go (eqb p 0xE0) (eqb p 0xF0)
  where
    go : (t u : Bool) → 0x80 ≤ cond t 0xA0 (cond u 0x90 0x80)
    go true u = lit≤ tt
    go false true = lit≤ tt
    go false false = lit≤ tt

high_most : (p : ℕ) → high_after p ≤ 0xBF
unfolding high_after
high_most p = go (eqb p 0xED) (eqb p 0xF4)
  where
    go : (t u : Bool) → cond t 0x9F (cond u 0x8F 0xBF) ≤ 0xBF
    go true u = lit≤ tt
    go false true = lit≤ tt
    go false false = lit≤ tt

tail_after : (p b : ℕ) → Octet (low_after p) (high_after p) b → Utf8Tail b
tail_after p b i = omega (arith, low_least p, high_most p)

-- n continuation bytes, the first within the limits after p, and then characters
data Rest : ℕ → ℕ → List ℕ → Type 0 where
  whole : {p : ℕ} {s : List ℕ} → Utf8Octets s → Rest 0 p s
  more : {n p b : ℕ} {s : List ℕ} → Octet (low_after p) (high_after p) b → Utf8Tail b → Rest n b s → Rest (suc n) p (b ∷ s)

-- The nine leads of the grammar, each with the number of continuation bytes after it.
data Lead : ℕ → ℕ → Type 0 where
  l00_7f : {a : ℕ} → Octet 0x00 0x7F a → Lead a 0
  lc2_df : {a : ℕ} → Octet 0xC2 0xDF a → Lead a 1
  le0 : Lead 0xE0 2
  le1_ec : {a : ℕ} → Octet 0xE1 0xEC a → Lead a 2
  led : Lead 0xED 2
  lee_ef : {a : ℕ} → Octet 0xEE 0xEF a → Lead a 2
  lf0 : Lead 0xF0 3
  lf1_f3 : {a : ℕ} → Octet 0xF1 0xF3 a → Lead a 3
  lf4 : Lead 0xF4 3

first_char : {a n : ℕ} {s : List ℕ} → Lead a n → Rest n a s → Utf8Octets (a ∷ s)
unfolding low_after high_after
first_char (l00_7f i) (whole r) = char (one (x00_7f i)) r
first_char (lc2_df i) (more _ p (whole r)) = char (two (xc2_df i p)) r
first_char le0 (more i p (more _ q (whole r))) = char (three (xe0 i q)) r
first_char (le1_ec i) (more _ p (more _ q (whole r))) = char (three (xe1_ec i p q)) r
first_char led (more i p (more _ q (whole r))) = char (three (xed i q)) r
first_char (lee_ef i) (more _ p (more _ q (whole r))) = char (three (xee_ef i p q)) r
first_char lf0 (more i p (more _ q (more _ u (whole r)))) = char (four (xf0 i q u)) r
first_char (lf1_f3 i) (more _ p (more _ q (more _ u (whole r)))) = char (four (xf1_f3 i p q u)) r
first_char lf4 (more i p (more _ q (more _ u (whole r)))) = char (four (xf4 i q u)) r

-- what a byte that begins a character is
record Found (a : ℕ) : Type 0 where
  n : ℕ
  lead : Lead a n
  class : class_of a ≡ suc n

-- Found from a range of the grammar, or from one value of it.
found : {from to a n : ℕ} → Octet from to a → Lead a n → T (passes (is_of (suc n)) from (to - from)) → Found a
found {a = a} {n = n} i l t = record { n = n; lead = l; class = eqb→eq (class_of a) (suc n) (in_range (is_of (suc n)) i t) }

found_at : {v n : ℕ} → Lead v n → T (is_of (suc n) v) → (a : ℕ) → Octet v v a → Found a
found_at {v} {n} l t a i = let e : a ≡ v = omega arith in rw e (record { n = n; lead = l; class = eqb→eq (class_of v) (suc n) t })

no_lead_80_c1 : (a : ℕ) → Octet 0x80 0xC1 a → begins (class_of a) ≡ true → ⊥
unfolding class_of
no_lead_80_c1 a i e = t_not_true (begins (class_of a)) (in_range (λ b. not (begins (class_of b))) i tt) e

class_past_f4 : (a : ℕ) → 0xF4 < a → class_of a ≡ 5
unfolding class_of
class_past_f4 a h =
    let p : 0x7F < a = omega arith in
    let q : 0xBF < a = omega arith in
    let r : 0xDF < a = omega arith in
    let u : 0xEF < a = omega arith in
    simp above_within

no_lead_past_f4 : (a : ℕ) → 0xF4 < a → begins (class_of a) ≡ true → ⊥
no_lead_past_f4 a h e = false≢true (rw (class_past_f4 a h) at e)

find : (a : ℕ) → begins (class_of a) ≡ true → Found a
unfolding class_of
find a t =
    below a 0x80 (λ k. let i : Octet 0x00 0x7F a = omega arith in found i (l00_7f i) tt) λ h.
    below a 0xC2 (λ k. absurd (no_lead_80_c1 a (omega arith) t)) λ h.
    below a 0xE0 (λ k. let i : Octet 0xC2 0xDF a = omega arith in found i (lc2_df i) tt) λ h.
    below a 0xE1 (λ k. found_at le0 tt a (omega arith)) λ h.
    below a 0xED (λ k. let i : Octet 0xE1 0xEC a = omega arith in found i (le1_ec i) tt) λ h.
    below a 0xEE (λ k. found_at led tt a (omega arith)) λ h.
    below a 0xF0 (λ k. let i : Octet 0xEE 0xEF a = omega arith in found i (lee_ef i) tt) λ h.
    below a 0xF1 (λ k. found_at lf0 tt a (omega arith)) λ h.
    below a 0xF4 (λ k. let i : Octet 0xF1 0xF3 a = omega arith in found i (lf1_f3 i) tt) λ h.
    below a 0xF5 (λ k. found_at lf4 tt a (omega arith)) λ h.
    absurd (no_lead_past_f4 a h t)

rest : (s : List ℕ) (n p : ℕ) → lacking n p s ≡ true → Rest n p s
unfolding lacking
rest [] zero p e = whole none
rest [] (suc n) p e = absurd (false≢true e)
rest (a ∷ s) zero p e =
    let t = both_true (begins (class_of a)) (lacking (class_of a - 1) a s) e in
    let f = find a t.0 in
    let d : class_of a - 1 ≡ f.n = omega (arith, f.class) in
    whole (first_char f.lead (rest s f.n a (rw d at t).1))
rest (b ∷ s) (suc n) p e =
    let t = both_true (within (low_after p) (high_after p) b) (lacking n b s) e in
    let i = within_in (low_after p) (high_after p) b t.0 in
    more i (tail_after p b i) (rest s n b t.1)

pub grammatical : (s : List ℕ) → is_utf8 s ≡ true → Utf8Octets s
unfolding is_utf8
grammatical s e = go (rest s 0 0 e)
  where
    go : Rest 0 0 s → Utf8Octets s
    go (whole r) = r
