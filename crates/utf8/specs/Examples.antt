-- The byte sequences that RFC 3629 itself shows, and how many code points they have.
use Rattle.std.specs.Prelude.{◌≡◌, refl, [], ◌∷◌, true, false}
use Rattle.utf8.specs.Utf8.{class_of, low_after, high_after, lacking, is_utf8}
use Rattle.utf8.specs.Points.{points_after, points}

-- Section 7: U+0041 U+2262 U+0391 U+002E
not_identical_to_alpha : is_utf8 (0x41 ∷ 0xE2 ∷ 0x89 ∷ 0xA2 ∷ 0xCE ∷ 0x91 ∷ 0x2E ∷ []) ≡ true
unfolding is_utf8 lacking class_of low_after high_after
not_identical_to_alpha = refl

not_identical_to_alpha_points : points (0x41 ∷ 0xE2 ∷ 0x89 ∷ 0xA2 ∷ 0xCE ∷ 0x91 ∷ 0x2E ∷ []) ≡ 4
unfolding points points_after class_of
not_identical_to_alpha_points = refl

-- Section 7: U+D55C U+AD6D U+C5B4
hangugeo : is_utf8 (0xED ∷ 0x95 ∷ 0x9C ∷ 0xEA ∷ 0xB5 ∷ 0xAD ∷ 0xEC ∷ 0x96 ∷ 0xB4 ∷ []) ≡ true
unfolding is_utf8 lacking class_of low_after high_after
hangugeo = refl

hangugeo_points : points (0xED ∷ 0x95 ∷ 0x9C ∷ 0xEA ∷ 0xB5 ∷ 0xAD ∷ 0xEC ∷ 0x96 ∷ 0xB4 ∷ []) ≡ 3
unfolding points points_after class_of
hangugeo_points = refl

-- Section 7: U+65E5 U+672C U+8A9E
nihongo : is_utf8 (0xE6 ∷ 0x97 ∷ 0xA5 ∷ 0xE6 ∷ 0x9C ∷ 0xAC ∷ 0xE8 ∷ 0xAA ∷ 0x9E ∷ []) ≡ true
unfolding is_utf8 lacking class_of low_after high_after
nihongo = refl

nihongo_points : points (0xE6 ∷ 0x97 ∷ 0xA5 ∷ 0xE6 ∷ 0x9C ∷ 0xAC ∷ 0xE8 ∷ 0xAA ∷ 0x9E ∷ []) ≡ 3
unfolding points points_after class_of
nihongo_points = refl

-- Section 7: U+233B4 after a byte order mark
stump_of_tree : is_utf8 (0xEF ∷ 0xBB ∷ 0xBF ∷ 0xF0 ∷ 0xA3 ∷ 0x8E ∷ 0xB4 ∷ []) ≡ true
unfolding is_utf8 lacking class_of low_after high_after
stump_of_tree = refl

stump_of_tree_points : points (0xEF ∷ 0xBB ∷ 0xBF ∷ 0xF0 ∷ 0xA3 ∷ 0x8E ∷ 0xB4 ∷ []) ≡ 2
unfolding points points_after class_of
stump_of_tree_points = refl

-- Section 3: an overlong U+0000
overlong_nul : is_utf8 (0xC0 ∷ 0x80 ∷ []) ≡ false
unfolding is_utf8 lacking class_of low_after high_after
overlong_nul = refl

-- Section 3: a pair of surrogates
surrogate_pair : is_utf8 (0xED ∷ 0xA1 ∷ 0x8C ∷ 0xED ∷ 0xBE ∷ 0xB4 ∷ []) ≡ false
unfolding is_utf8 lacking class_of low_after high_after
surrogate_pair = refl

-- Section 10: "/../" with an overlong dot
overlong_dot : is_utf8 (0x2F ∷ 0xC0 ∷ 0xAE ∷ 0x2E ∷ 0x2F ∷ []) ≡ false
unfolding is_utf8 lacking class_of low_after high_after
overlong_dot = refl

-- a combining mark counts by itself: e and U+0301
combining_mark : points (0x65 ∷ 0xCC ∷ 0x81 ∷ []) ≡ 2
unfolding points points_after class_of
combining_mark = refl
