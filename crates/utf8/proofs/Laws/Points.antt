-- The code points of a list of bytes (document 02, wish 3). On UTF8-octets they are counted as RFC 3629's grammar has it, whichever derivation is
-- taken; they are the bytes outside 80..BF; and there are at most as many as bytes, and at least a quarter as many.
-- Assumes nothing.
use Rattle.std.specs.Prelude.{ℕ, suc, ◌-◌, ◌*◌, ◌≤◌, ◌≡◌, refl, List, [], ◌∷◌, ◌++◌, Bool, true, false, not, ◌&&◌, Some, None, length, eqb}
use Rattle.std.proofs.Common.{◌∙◌, arith, ap, lit≤, T, sub-one, eqb→eq, length-append}
use Rattle.base.specs.Choice.{pick}
use Rattle.base.specs.Laws.{clash}
use Rattle.utf8.specs.Utf8.{within, class_of, is_utf8}
use Rattle.utf8.specs.Rfc3629.{Octet, x00_7f, xc2_df, xe0, xe1_ec, xed, xee_ef, xf0, xf1_f3, xf4, Utf8Char, one, two, three, four, Utf8Octets, none, char}
use Rattle.utf8.specs.Points.{chars_in, points_after, points, points_of}
use Rattle.utf8.proofs.Laws.Chars.{t_both, passes, in_range, in_within, octet}
use Rattle.utf8.proofs.Laws.Sound.{sound}

-- how many bytes lie outside 80..BF
unfoldable pub outside : List ℕ → ℕ
outside [] = 0
outside (b ∷ s) = pick (within 0x80 0xBF b) (outside s) (suc (outside s))

-- ---- a character: a byte outside 80..BF whose class is the character's length, and up to three within

data Tails : ℕ → List ℕ → Type 0 where
  last : Tails 0 []
  next : {n b : ℕ} {t : List ℕ} → within 0x80 0xBF b ≡ true → Tails n t → Tails (suc n) (b ∷ t)

data Shape : List ℕ → Type 0 where
  shape : {n a : ℕ} {t : List ℕ} → class_of a ≡ suc n → within 0x80 0xBF a ≡ false → Tails n t → n ≤ 3 → Shape (a ∷ t)

-- a begins a character of suc n bytes
abbrev leads : ℕ → ℕ → Bool
leads n a = eqb (class_of a) (suc n) && not (within 0x80 0xBF a)

not_true : (p : Bool) → T (not p) → p ≡ false
not_true true t = absurd t
not_true false t = refl

shaped : (n : ℕ) {from to a : ℕ} {t : List ℕ} → Octet from to a → T (passes (leads n) from (to - from)) → Tails n t → n ≤ 3 → Shape (a ∷ t)
shaped n {a = a} i u t h =
    let v = t_both (eqb (class_of a) (suc n)) (not (within 0x80 0xBF a)) (in_range (leads n) i u) in
    shape (eqb→eq (class_of a) (suc n) v.0) (not_true (within 0x80 0xBF a) v.1) t h

-- a byte of one of the grammar's ranges behind the first
tail : {low high b : ℕ} → Octet low high b → 0x80 ≤ low → high ≤ 0xBF → within 0x80 0xBF b ≡ true
tail {b = b} i l h = let u : Octet 0x80 0xBF b = omega arith in in_within u

char_shape : {c : List ℕ} → Utf8Char c → Shape c
unfolding class_of
char_shape (one (x00_7f i)) = shaped 0 i tt last (lit≤ tt)
char_shape (two (xc2_df i p)) = shaped 1 i tt (next (in_within p) last) (lit≤ tt)
char_shape (three (xe0 p q)) = shaped 2 (octet 0xE0) tt (next (tail p (lit≤ tt) (lit≤ tt)) (next (in_within q) last)) (lit≤ tt)
char_shape (three (xe1_ec i p q)) = shaped 2 i tt (next (in_within p) (next (in_within q) last)) (lit≤ tt)
char_shape (three (xed p q)) = shaped 2 (octet 0xED) tt (next (tail p (lit≤ tt) (lit≤ tt)) (next (in_within q) last)) (lit≤ tt)
char_shape (three (xee_ef i p q)) = shaped 2 i tt (next (in_within p) (next (in_within q) last)) (lit≤ tt)
char_shape (four (xf0 p q r)) =
    shaped 3 (octet 0xF0) tt (next (tail p (lit≤ tt) (lit≤ tt)) (next (in_within q) (next (in_within r) last))) (lit≤ tt)
char_shape (four (xf1_f3 i p q r)) = shaped 3 i tt (next (in_within p) (next (in_within q) (next (in_within r) last))) (lit≤ tt)
char_shape (four (xf4 p q r)) =
    shaped 3 (octet 0xF4) tt (next (tail p (lit≤ tt) (lit≤ tt)) (next (in_within q) (next (in_within r) last))) (lit≤ tt)

-- ---- one character at the front is one code point

pub points_empty : points [] ≡ 0
unfolding points points_after
points_empty = refl

points_tails : {n : ℕ} {t : List ℕ} → Tails n t → (s : List ℕ) → points_after n (t ++ s) ≡ points s
unfolding points points_after
points_tails last s = refl
points_tails (next w t) s = points_tails t s

points_shape : {c : List ℕ} → Shape c → (s : List ℕ) → points (c ++ s) ≡ suc (points s)
unfolding points points_after
points_shape (shape e w t h) s = rw (e, sub-one) (ap suc (points_tails t s))

pub points_char : {c : List ℕ} → Utf8Char c → (s : List ℕ) → points (c ++ s) ≡ suc (points s)
points_char c s = points_shape (char_shape c) s

-- so they are those of the grammar
pub points_chars : {s : List ℕ} (r : Utf8Octets s) → points s ≡ chars_in r
unfolding chars_in
points_chars none = points_empty
points_chars (char {s = s} c r) = points_char c s ∙ ap suc (points_chars r)

-- ---- they are the bytes outside 80..BF

outside_tails : {n : ℕ} {t : List ℕ} → Tails n t → (s : List ℕ) → outside (t ++ s) ≡ outside s
unfolding outside
outside_tails last s = refl
outside_tails (next w t) s = rw w (outside_tails t s)

outside_shape : {c : List ℕ} → Shape c → (s : List ℕ) → outside (c ++ s) ≡ suc (outside s)
unfolding outside
outside_shape (shape e w t h) s = rw w (ap suc (outside_tails t s))

outside_chars : {s : List ℕ} (r : Utf8Octets s) → outside s ≡ chars_in r
unfolding chars_in outside
outside_chars none = refl
outside_chars (char {s = s} c r) = outside_shape (char_shape c) s ∙ ap suc (outside_chars r)

pub points_outside : (s : List ℕ) → is_utf8 s ≡ true → points s ≡ outside s
points_outside s e = let r = sound s e in omega (arith, points_chars r, outside_chars r)

-- ---- beside the number of bytes

tails_length : {n : ℕ} {t : List ℕ} → Tails n t → length t ≡ n
tails_length last = refl
tails_length (next w t) = ap suc (tails_length t)

shape_length : {c : List ℕ} → Shape c → (1 ≤ length c) × (length c ≤ 4)
shape_length (shape e w t h) = let l = tails_length t in (omega arith, omega arith)

chars_length : {s : List ℕ} (r : Utf8Octets s) → (chars_in r ≤ length s) × (length s ≤ 4 * chars_in r)
unfolding chars_in
chars_length none = (omega arith, omega arith)
chars_length (char {c = c} {s = s} k r) =
    let l = length-append c s in
    let m = shape_length (char_shape k) in
    let h = chars_length r in
    (omega arith, omega arith)

pub points_length : (s : List ℕ) → is_utf8 s ≡ true → (points s ≤ length s) × (length s ≤ 4 * points s)
points_length s e = let r = sound s e in rw (points_chars r) (chars_length r)

-- ---- what is handed back: nothing exactly where the string is not UTF-8

pub some_points : (s : List ℕ) (n : ℕ) → Some n ≡ points_of s → (is_utf8 s ≡ true) × (n ≡ points s)
unfolding points_of
some_points s n e = go (is_utf8 s) refl e
  where
    go : (b : Bool) → is_utf8 s ≡ b → Some n ≡ pick b (Some (points s)) None → (is_utf8 s ≡ true) × (n ≡ points s)
    go true f e = (f, cc)
    go false f e = clash (cc)

pub none_points : (s : List ℕ) → None ≡ points_of s → is_utf8 s ≡ false
unfolding points_of
none_points s e = go (is_utf8 s) refl e
  where
    go : (b : Bool) → is_utf8 s ≡ b → None ≡ pick b (Some (points s)) None → is_utf8 s ≡ false
    go true f e = clash (cc)
    go false f e = f
