-- Document 01, "Bench cases", T1 to T4, and the edges of the rules, computed.
use Rattle.std.specs.Prelude.{ℕ, ◌≡◌, refl, [], ◌∷◌, ◌++◌, replicate}
use Rattle.window.specs.Window.{can_read}
use Rattle.prog.specs.Prog.{answer, run, trace, tried, end_of, reach}
use Rattle.utf8.specs.Utf8.{class_of, low_after, high_after, lacking, is_utf8}
use Rattle.utf8.specs.Points.{points_after, points}
use Rattle.text.specs.Text.{accepted_text, refused_text, has_nul, before_nul, judged, chunks_p, text_p}

abbrev flash_base : ℕ
flash_base = 134217728

-- T1: "A", NUL, in 64 bytes
t1 : run (text_p flash_base flash_base) (65 ∷ 0 ∷ replicate 62 255) ≡ accepted_text 0 1 1
unfolding text_p chunks_p judged has_nul before_nul points points_after is_utf8 lacking class_of low_after high_after run answer can_read
t1 = refl

-- T2: the same, in 63
t2 : run (text_p flash_base flash_base) (65 ∷ 0 ∷ replicate 61 255) ≡ refused_text 2
unfolding text_p chunks_p judged has_nul before_nul points points_after is_utf8 lacking class_of low_after high_after run answer can_read
t2 = refl

-- T3: C0 80, NUL
t3 : run (text_p flash_base flash_base) (0xC0 ∷ 0x80 ∷ 0 ∷ replicate 61 255) ≡ refused_text 21
unfolding text_p chunks_p judged has_nul before_nul points points_after is_utf8 lacking class_of low_after high_after run answer can_read
t3 = refl

-- T4: the NUL at index 1023, and none
t4 : run (text_p flash_base flash_base) (replicate 1023 65 ++ 0 ∷ []) ≡ accepted_text 0 1023 1023
unfolding text_p chunks_p judged has_nul before_nul points points_after is_utf8 lacking class_of low_after high_after run answer can_read
t4 = refl

t4_none : run (text_p flash_base flash_base) (replicate 1024 65) ≡ refused_text 20
unfolding text_p chunks_p judged has_nul before_nul points points_after is_utf8 lacking class_of low_after high_after run answer can_read
t4_none = refl

t4_tried : tried (text_p flash_base flash_base) (replicate 1024 65) ≡ 16
unfolding text_p chunks_p judged has_nul before_nul tried answer can_read
t4_tried = refl

t4_reach : reach (text_p flash_base flash_base) (replicate 1024 65) ≡ 1024
unfolding text_p chunks_p judged has_nul before_nul trace end_of answer can_read
t4_reach = refl

-- ---- the edges

-- 3 comes before 2
below_base : run (text_p flash_base 134217727) [] ≡ refused_text 3
unfolding text_p chunks_p judged has_nul before_nul points points_after is_utf8 lacking class_of low_after high_after run answer can_read
below_base = refl

-- an accepted empty string has its own offset
empty : run (text_p flash_base 134217729) (65 ∷ 0 ∷ replicate 63 255) ≡ accepted_text 1 0 0
unfolding text_p chunks_p judged has_nul before_nul points points_after is_utf8 lacking class_of low_after high_after run answer can_read
empty = refl

-- UTF-8 is judged only where the NUL was found: 2 and 20 come before 21
bad_and_ended : run (text_p flash_base flash_base) (replicate 64 255) ≡ refused_text 2
unfolding text_p chunks_p judged has_nul before_nul points points_after is_utf8 lacking class_of low_after high_after run answer can_read
bad_and_ended = refl

bad_and_long : run (text_p flash_base flash_base) (replicate 1024 255) ≡ refused_text 20
unfolding text_p chunks_p judged has_nul before_nul points points_after is_utf8 lacking class_of low_after high_after run answer can_read
bad_and_long = refl

-- sixteen chunks that end at 2^32
up_to_top : run (text_p 4294966272 4294966272) (replicate 1024 65) ≡ refused_text 20
unfolding text_p chunks_p judged has_nul before_nul points points_after is_utf8 lacking class_of low_after high_after run answer can_read
up_to_top = refl

-- a chunk that starts at 2^32, though the image goes on
from_top : run (text_p 4294967232 4294967232) (replicate 64 65 ++ replicate 64 0) ≡ refused_text 2
unfolding text_p chunks_p judged has_nul before_nul points points_after is_utf8 lacking class_of low_after high_after run answer can_read
from_top = refl

-- a chunk that crosses 2^32, where the image ends
past_top : run (text_p 4294967264 4294967264) (65 ∷ replicate 31 0) ≡ refused_text 2
unfolding text_p chunks_p judged has_nul before_nul points points_after is_utf8 lacking class_of low_after high_after run answer can_read
past_top = refl
