-- Same set, outcome by outcome: what the proofs of the code cite.
-- Assumes nothing.
use Prim.Native.Nat.{ℕ, zero, suc, pred, ◌+◌, ◌-◌, ◌*◌, ◌≤◌, ◌<◌}
use native.Mathlib.Omega.{arith}
use Rattle.std.proofs.Common.{add-zero, add-one, mul-suc, sub-one, sym, ap, ◌∙◌, length-drop, drop-cons, drop_of_length-le}
use Rattle.std.specs.Prelude.{◌≡◌, ◌/◌, Bool, not, ◌||◌, List, [], ◌∷◌, eqb, get_or, map, take}
use Rattle.std.specs.List.{list_any, list_all, range_with_len, zip}
use Rattle.std.specs.Simd.{first_chunks}
use Rattle.std.proofs.lemmas.List.{get_or_past}
use Rattle.std.proofs.Math.Path.{refl}
use Rattle.std.proofs.Math.Bool.{true, false}
use Rattle.std.proofs.Math.Dec.{ltb}
use Rattle.std.proofs.Math.ListN.{length, drop}
use Rattle.std.proofs.Math.Seq.{drop-drop}
use borrow.Author.Tests.{ltb-true, ltb-false, lt-ltb, le-ltb, le-leb, lt-leb, eq-eqb, ne_eqb}
use Rattle.base.specs.Laws.{clash, cases}
use Rattle.rows.specs.LentRows.{rom_row_length, has_set_row, size_of, first_rom, rom_count, serve_of, type_word}
use Rattle.rows.specs.Laws.{width_altered, altered_length, altered_types}
use Rattle.set_data.specs.Data.{unvalued}
use Rattle.same_set.specs.Same.{type_of, types_in, types, any_above33, bad_set, compared, equal, same_set}

-- ---- the types of ROM rows, one by one

module _ (words : List ℕ) (at left : ℕ) where
  types_cons : at < length words → (left ≡ 0 → ⊥) → types_in (drop at words) left ≡ get_or words at 0 ∷ types_in (drop (at + rom_row_length) words) (left - 1)
  unfolding types_in
  types_cons h i = rw (drop-cons words at 0 h) (go left i)
    where
      after : drop (pred rom_row_length) (drop (suc at) words) ≡ drop (at + rom_row_length) words
      after = let e : suc at + pred rom_row_length ≡ at + rom_row_length = omega arith in drop-drop (pred rom_row_length) (suc at) words ∙ rw e

      go : (n : ℕ) → (n ≡ 0 → ⊥) → types_in (get_or words at 0 ∷ drop (suc at) words) n ≡ get_or words at 0 ∷ types_in (drop (at + rom_row_length) words) (n - 1)
      go zero j = absurd (j refl)
      go (suc n) j = rw (after, sub-one (suc n))

  pub above_found : at < length words → (left ≡ 0 → ⊥) → 33 < get_or words at 0 → true ≡ any_above33 (types_in (drop at words) left)
  unfolding any_above33
  above_found h i j = rw (types_cons h i, lt-ltb 33 (get_or words at 0) j)

  pub above_next : at < length words → (left ≡ 0 → ⊥) → get_or words at 0 ≤ 33 → any_above33 (types_in (drop (at + rom_row_length) words) (left - 1)) ≡ any_above33 (types_in (drop at words) left)
  unfolding any_above33
  above_next h i j = rw (types_cons h i, le-ltb 33 (get_or words at 0) j)

  pub above_none : left ≡ 0 → false ≡ any_above33 (types_in (drop at words) left)
  unfolding any_above33 types_in
  above_none e = rw e

module _ (a b : List ℕ) (at left : ℕ) where
  pub types_differ : at < length a → at < length b → (left ≡ 0 → ⊥) → (get_or a at 0 ≡ get_or b at 0 → ⊥) → false ≡ equal (types_in (drop at a) left) (types_in (drop at b) left)
  unfolding equal
  types_differ h i j e = rw (types_cons a at left h j, types_cons b at left i j, ne_eqb (get_or a at 0) (get_or b at 0) e)

  pub types_next : at < length a → at < length b → (left ≡ 0 → ⊥) → get_or a at 0 ≡ get_or b at 0
      → equal (types_in (drop (at + rom_row_length) a) (left - 1)) (types_in (drop (at + rom_row_length) b) (left - 1)) ≡ equal (types_in (drop at a) left) (types_in (drop at b) left)
  unfolding equal
  types_next h i j e = rw (types_cons a at left h j, types_cons b at left i j, eq-eqb (get_or a at 0) (get_or b at 0) e)

  pub types_same : left ≡ 0 → true ≡ equal (types_in (drop at a) left) (types_in (drop at b) left)
  unfolding equal types_in
  types_same e = rw e

-- none past the end
none_above : (n : ℕ) → any_above33 (types_in [] n) ≡ false
unfolding any_above33 types_in
none_above zero = refl
none_above (suc n) = refl

-- row by row, from one on: a word past the end is 0
module _ (words : List ℕ) where
  pub any_by_rows : (n row : ℕ) → list_any (λ k. ltb 33 (type_word words k)) (range_with_len row n) ≡ any_above33 (types_in (drop (rom_row_length * row) words) n)
  unfolding any_above33 types_in
  any_by_rows zero row = refl
  any_by_rows (suc n) row =
      let at = rom_row_length * row in
      let some : suc n ≡ 0 → ⊥ = λ e. omega arith in
      let next : at + rom_row_length ≡ rom_row_length * suc row = omega (arith, mul-suc rom_row_length row) in
      let later = any_by_rows n (suc row) in
      cases (ltb at (length words))
      (λ e. rw (add-zero, add-one, types_cons words at (suc n) (ltb-true at (length words) e) some, next, sub-one, later))
      (λ e.
      let outside = ltb-false at (length words) e in
      let past : length words ≤ rom_row_length * suc row = omega (arith, mul-suc rom_row_length row) in
      rw (add-zero, add-one, get_or_past words at 0 outside, drop_of_length-le words outside, later, drop_of_length-le words past, none_above n))

module _ (a b : List ℕ) where
  pub same_by_rows : (n row : ℕ) → rom_row_length * row + rom_row_length * n ≤ length a → rom_row_length * row + rom_row_length * n ≤ length b
      → list_all (λ k. eqb (type_word a k) (type_word b k)) (range_with_len row n) ≡ equal (types_in (drop (rom_row_length * row) a) n) (types_in (drop (rom_row_length * row) b) n)
  unfolding equal types_in
  same_by_rows zero row h i = refl
  same_by_rows (suc n) row h i =
      let at = rom_row_length * row in
      let some : suc n ≡ 0 → ⊥ = λ e. omega arith in
      let next : at + rom_row_length ≡ rom_row_length * suc row = omega (arith, mul-suc rom_row_length row) in
      let c = mul-suc rom_row_length n in
      let later = same_by_rows n (suc row) (omega arith) (omega arith) in
      rw (add-zero, add-one, types_cons a at (suc n) (omega arith) some, types_cons b at (suc n) (omega arith) some, next, sub-one, later)

-- ---- whole rows, by their types

pub types_of_rows : (n m : ℕ) (words : List ℕ) → rom_row_length * n ≤ length words → n ≤ m → map type_of (take n (first_chunks rom_row_length m words)) ≡ types_in words n
unfolding types_in
types_of_rows zero m words h k = refl
types_of_rows (suc n) zero words h k = absurd (omega arith)
types_of_rows (suc n) (suc m) [] h k = absurd (omega (arith, mul-suc rom_row_length n))
types_of_rows (suc n) (suc m) (t ∷ words) h k =
    let c = mul-suc rom_row_length n in
    let later : length (drop (pred rom_row_length) words) ≡ length words - pred rom_row_length = length-drop (pred rom_row_length) words in
    ap (λ (ts : List ℕ). t ∷ ts) (types_of_rows n m (drop (pred rom_row_length) words) (omega arith) (omega arith))

pub enough_whole : (n : ℕ) (words : List ℕ) → rom_row_length * n ≤ length words → n ≤ length words / rom_row_length
enough_whole n words h = omega arith

pub any_whole : (rows : List (List ℕ)) → list_any (λ (r : List ℕ). ltb 33 (type_of r)) rows ≡ any_above33 (map type_of rows)
unfolding any_above33
any_whole [] = refl
any_whole (r ∷ rows) = rw (any_whole rows)

pub same_whole : (a b : List (List ℕ)) → length a ≡ length b → list_all (λ (p : List ℕ × List ℕ). eqb (type_of p.0) (type_of p.1)) (zip a b) ≡ equal (map type_of a) (map type_of b)
unfolding equal
same_whole [] [] h = refl
same_whole [] (s ∷ b) h = absurd (omega arith)
same_whole (r ∷ a) [] h = absurd (omega arith)
same_whole (r ∷ a) (s ∷ b) h = rw (same_whole a b (omega arith))

-- ---- a set that can't be compared

module _ (sets roms : List ℕ) (i : ℕ) where
  pub bad_row : has_set_row sets i ≡ false → true ≡ bad_set sets roms i
  unfolding bad_set
  bad_row h = rw h

  module _ (row : has_set_row sets i ≡ true) where
    pub bad_empty : rom_count sets i ≡ 0 → false ≡ bad_set sets roms i
    unfolding bad_set
    bad_empty h = rw (row, h)

    pub bad_short : (rom_count sets i ≡ 0 → ⊥) → length roms < rom_row_length * (first_rom sets i + rom_count sets i) → true ≡ bad_set sets roms i
    unfolding bad_set
    bad_short h s = let p : 0 < rom_count sets i = omega arith in rw (row, lt-ltb 0 (rom_count sets i) p, lt-ltb (length roms) (rom_row_length * (first_rom sets i + rom_count sets i)) s)

    pub bad_types : (rom_count sets i ≡ 0 → ⊥) → rom_row_length * (first_rom sets i + rom_count sets i) ≤ length roms
        → any_above33 (types_in (drop (rom_row_length * first_rom sets i) roms) (rom_count sets i)) ≡ bad_set sets roms i
    unfolding bad_set
    bad_types h s = let p : 0 < rom_count sets i = omega arith in rw (row, lt-ltb 0 (rom_count sets i) p, le-ltb (length roms) (rom_row_length * (first_rom sets i + rom_count sets i)) s)

  -- a set that can be compared has its ROM rows among those lent
  good_rows : bad_set sets roms i ≡ false → (rom_count sets i ≡ 0 → ⊥) → rom_row_length * (first_rom sets i + rom_count sets i) ≤ length roms
  unfolding bad_set
  good_rows h c =
      let p : 0 < rom_count sets i = omega arith in
      go (has_set_row sets i) (ltb (length roms) (rom_row_length * (first_rom sets i + rom_count sets i))) refl (rw (lt-ltb 0 (rom_count sets i) p) at h)
    where
      go : (b s : Bool) → ltb (length roms) (rom_row_length * (first_rom sets i + rom_count sets i)) ≡ s → (not b || (s || any_above33 (types sets roms i))) ≡ false
          → rom_row_length * (first_rom sets i + rom_count sets i) ≤ length roms
      go true false e f = ltb-false (length roms) (rom_row_length * (first_rom sets i + rom_count sets i)) e
      go true true e f = clash (cc)
      go false s e f = clash (cc)

  pub enough_rows : bad_set sets roms i ≡ false → (n first : ℕ) → n ≡ rom_count sets i → first ≡ first_rom sets i → (words : List ℕ) → words ≡ drop (rom_row_length * first) roms → rom_row_length * n ≤ length words
  enough_rows h n first v w words e = rw (e, length-drop (rom_row_length * first) roms) (go n refl)
    where
      go : (k : ℕ) → n ≡ k → rom_row_length * n ≤ length roms - rom_row_length * first
      go zero z = omega arith
      go (suc k) z = omega (arith, good_rows h (λ y. absurd (omega arith)))

-- ---- the comparison

module _ (sets roms : List ℕ) (a b : ℕ) where
  pub differ_size : (size_of sets a ≡ size_of sets b → ⊥) → false ≡ equal (compared sets roms a) (compared sets roms b)
  unfolding compared equal
  differ_size h = rw (ne_eqb (size_of sets a) (size_of sets b) h)

  module _ (sizes : size_of sets a ≡ size_of sets b) where
    pub differ_count : (rom_count sets a ≡ rom_count sets b → ⊥) → false ≡ equal (compared sets roms a) (compared sets roms b)
    unfolding compared equal
    differ_count h = rw (eq-eqb (size_of sets a) (size_of sets b) sizes, ne_eqb (rom_count sets a) (rom_count sets b) h)

    module _ (counts : rom_count sets a ≡ rom_count sets b) where
      pub differ_serve : (serve_of sets a ≡ serve_of sets b → ⊥) → false ≡ equal (compared sets roms a) (compared sets roms b)
      unfolding compared equal
      differ_serve h =
          rw (eq-eqb (size_of sets a) (size_of sets b) sizes, eq-eqb (rom_count sets a) (rom_count sets b) counts, ne_eqb (serve_of sets a) (serve_of sets b) h)

      module _ (serves : serve_of sets a ≡ serve_of sets b) where
        -- ROM count, first ROM rows and the words from there on, as the code has them
        pub by_types : (n first other : ℕ) → n ≡ rom_count sets a → first ≡ first_rom sets a → other ≡ first_rom sets b → (v w : List ℕ) → v ≡ drop (rom_row_length * first) roms → w ≡ drop (rom_row_length * other) roms
            → equal (types_in v n) (types_in w n) ≡ equal (compared sets roms a) (compared sets roms b)
        unfolding compared equal
        by_types n first other e f g v w h i =
            rw (h, i, e, f, g, eq-eqb (size_of sets a) (size_of sets b) sizes, eq-eqb (rom_count sets a) (rom_count sets b) counts, eq-eqb (serve_of sets a) (serve_of sets b) serves, ← counts)

-- ---- the call

module _ (served : ℕ) (sets roms : List ℕ) (a b : ℕ) where
  pub no_first : served ≤ a → unvalued 80 ≡ same_set served sets roms a b
  unfolding same_set
  no_first h = rw (le-leb served a h)

  module _ (first : a < served) where
    pub no_second : served ≤ b → unvalued 80 ≡ same_set served sets roms a b
    unfolding same_set
    no_second h = rw (lt-leb served a first, le-leb served b h)

    module _ (second : b < served) where
      pub bad_first : bad_set sets roms a ≡ true → unvalued 4 ≡ same_set served sets roms a b
      unfolding same_set
      bad_first h = rw (lt-leb served a first, lt-leb served b second, h)

      module _ (good : bad_set sets roms a ≡ false) where
        pub bad_second : bad_set sets roms b ≡ true → unvalued 4 ≡ same_set served sets roms a b
        unfolding same_set
        bad_second h = rw (lt-leb served a first, lt-leb served b second, good, h)

        module _ (also_good : bad_set sets roms b ≡ false) where
          pub told_same : equal (compared sets roms a) (compared sets roms b) ≡ true → record { number = 0; value = 1 } ≡ same_set served sets roms a b
          unfolding same_set
          told_same h = rw (lt-leb served a first, lt-leb served b second, good, also_good, h)

          pub told_other : equal (compared sets roms a) (compared sets roms b) ≡ false → record { number = 0; value = 0 } ≡ same_set served sets roms a b
          unfolding same_set
          told_other h = rw (lt-leb served a first, lt-leb served b second, good, also_good, h)

-- ---- of the ROM rows it looks at how many words are lent and at the types: with other names and widths the answer is the same

module _ (roms other : List ℕ) (long : length other ≡ length roms) (same : (row : ℕ) → type_word other row ≡ type_word roms row) where
  types_by_types : (n row : ℕ) → types_in (drop (rom_row_length * row) other) n ≡ types_in (drop (rom_row_length * row) roms) n
  unfolding types_in
  types_by_types zero row = refl
  types_by_types (suc n) row =
      let at = rom_row_length * row in
      let some : suc n ≡ 0 → ⊥ = λ e. omega arith in
      let head : get_or other at 0 ≡ get_or roms at 0 = rw add-zero at (same row) in
      let next : at + rom_row_length ≡ rom_row_length * suc row = omega (arith, mul-suc rom_row_length row) in
      cases (ltb at (length roms))
      (λ e.
      let inside = ltb-true at (length roms) e in
      types_cons other at (suc n) (omega arith) some
      ∙ rw (head, next, sub-one) (ap (λ (ts : List ℕ). get_or roms at 0 ∷ ts) (types_by_types n (suc row)))
      ∙ sym (types_cons roms at (suc n) inside some))
      (λ e.
      let outside = ltb-false at (length roms) e in
      let past : length other ≤ at = omega arith in
      rw (drop_of_length-le roms outside, drop_of_length-le other past))

  pub same_by_types : (served : ℕ) (sets : List ℕ) (a b : ℕ) → same_set served sets other a b ≡ same_set served sets roms a b
  unfolding same_set bad_set compared
  same_by_types served sets a b =
      rw (types_by_types (rom_count sets a) (first_rom sets a), types_by_types (rom_count sets b) (first_rom sets b), long)

pub width_altered_same : (roms : List ℕ) (row word served : ℕ) (sets : List ℕ) (a b : ℕ)
    → same_set served sets (width_altered roms row word) a b ≡ same_set served sets roms a b
width_altered_same roms row word served sets a b =
    same_by_types roms (width_altered roms row word) (altered_length roms row word) (altered_types roms row word) served sets a b
