-- The starred cases of document 01 as one table: what C's calls answer by their statements, what 01 says, and the theorem `starred` that they agree.
use Rattle.std.specs.Prelude.{ℕ, ◌≡◌, refl, List, [], ◌∷◌, replicate}
use Rattle.window.specs.Window.{can_read, past_window}
use Rattle.magic.specs.Magic.{starts_with}
use Rattle.runtime_info.specs.Runtime.{head_of, runtime_header, reaches, group060_of, group062_of, group063_of, group067_of, runtime_of}
use Rattle.runtime_info.specs.Words.{head_words, words060, words062, words063, words067, runtime_words, number_of, words_after}
use Rattle.prog.specs.Prog.{run, answer as read_answer}
use Rattle.utf8.specs.Utf8.{class_of, low_after, high_after, lacking, is_utf8}
use Rattle.utf8.specs.Points.{points_after, points}
use Rattle.text.specs.Text.{has_nul, before_nul, judged, chunks_p, text_p, string_call, part_after}
use Rattle.types.specs.Types.{is_high, rom_type_of}
use Rattle.type_numbers.specs.TypeNumbers.{rom_type_number}
use Rattle.demangle.specs.Bits.{bit_at, taken_bit, gather}
use Rattle.demangle.specs.Demangle.{all_below, demangle}
use Rattle.least_pin.specs.LeastPin.{least_of, least_pin}
use Rattle.base_zero.specs.BaseZero.{lowered, lowered_by, base_zero}
use Rattle.rom_rules.specs.Rules.{rules_of, drives, mangle_number}
use Rattle.input_word.specs.Input.{raised, input_word}
use Rattle.mangle.specs.PinMap.{with_address, with_x, control_off, with_control, with_controls, map_number, whole_map, map_by, map_of, pin_map}
use Rattle.mangle.specs.Mangle.{Mangled, mangle_by, mangle_of, mangle_core}
use Rattle.governing.specs.Governing.{governing, governing_set0}
use Rattle.info.specs.Lent.{mangled_by, mangle_address, demangle_byte}
use Rattle.c_board.specs.Board.{pins_from}
use Rattle.c_board.specs.Value.{value_after}
use Rattle.c_mangle.specs.Board.{mangle_call, demangle_call}
use Rattle.starred.specs.Inputs.{ram_base, record_r1, record_r2, record_r3, record_r4, flash_base, image_t1, image_t2, image_t3, pins_d1, pins_d2, pins_m1, pins_m2}

pub data Case : Type 0 where
  R1 R2 R3 R4 T1 T2 T3 D1 D2 M1 M2 M3 : Case

-- Each answer is the call's number, then what the call was lent as it leaves it. All that is lent holds 9.

-- a runtime record, and its 25 words
abbrev pub of_record : List ℕ → List ℕ
of_record s = number_of (runtime_of s ram_base) ∷ words_after (runtime_of s ram_base) (replicate 25 9)

-- a string at the image's base: its offset, length and width
abbrev pub of_string : List ℕ → List ℕ
of_string x = (string_call flash_base flash_base x).number ∷ part_after (string_call flash_base flash_base x) (replicate 3 9)

-- the byte 1, by these data pins
abbrev pub of_byte : List ℕ → List ℕ
of_byte pins = (demangle_call 0 pins 1).number ∷ value_after (demangle_call 0 pins 1).number (demangle_call 0 pins 1).value 9 ∷ []

-- a 2364 alone on its board of 24 pins, by its address pins and CS1, whose level is high; the control pins that it does not use are 255
abbrev mangled : List ℕ → (cs1 address : ℕ) → Mangled
mangled pins cs1 address =
    mangle_call 0 24 pins (cs1 ∷ replicate 6 255) 1 (0 ∷ 0 ∷ 0 ∷ 1 ∷ replicate 4 0) (2 ∷ replicate 7 0) address (1 ∷ replicate 4 0)

abbrev pub of_address : List ℕ → (cs1 address : ℕ) → List ℕ
of_address pins cs1 address = (mangled pins cs1 address).number ∷ value_after (mangled pins cs1 address).number (mangled pins cs1 address).value 9 ∷ []

abbrev pub answer : Case → List ℕ
answer R1 = of_record record_r1
answer R2 = of_record record_r2
answer R3 = of_record record_r3
answer R4 = of_record record_r4
answer T1 = of_string image_t1
answer T2 = of_string image_t2
answer T3 = of_string image_t3
answer D1 = of_byte pins_d1
answer D2 = of_byte pins_d2
answer M1 = of_address pins_m1 13 5
answer M2 = of_address pins_m2 21 5
answer M3 = of_address pins_m1 13 8192

abbrev pub expected : Case → List ℕ
-- head 1 2 1 5 536870920 536870912 65536; 0.6.0 1 0 1 11 150 300 300; the rest absent
expected R1 =
    0 ∷ 1 ∷ 2 ∷ 1 ∷ 5 ∷ 536870920 ∷ 536870912 ∷ 65536 ∷ 1 ∷ 1 ∷ 0 ∷ 1 ∷ 11 ∷ 150 ∷ 300 ∷ 300 ∷ 0 ∷ 0 ∷ 0 ∷ 0 ∷ 0 ∷ 0 ∷ 0 ∷ 0 ∷ 0 ∷ 0 ∷ []
-- no group
expected R2 =
    0 ∷ 1 ∷ 2 ∷ 1 ∷ 5 ∷ 536870920 ∷ 536870912 ∷ 65536 ∷ 0 ∷ 0 ∷ 0 ∷ 0 ∷ 0 ∷ 0 ∷ 0 ∷ 0 ∷ 0 ∷ 0 ∷ 0 ∷ 0 ∷ 0 ∷ 0 ∷ 0 ∷ 0 ∷ 0 ∷ 0 ∷ []
-- 61
expected R3 = 61 ∷ replicate 25 9
-- 0.6.0 absent
expected R4 =
    0 ∷ 1 ∷ 2 ∷ 1 ∷ 5 ∷ 536870920 ∷ 536870912 ∷ 65536 ∷ 0 ∷ 0 ∷ 0 ∷ 0 ∷ 0 ∷ 0 ∷ 0 ∷ 0 ∷ 0 ∷ 0 ∷ 0 ∷ 0 ∷ 0 ∷ 0 ∷ 0 ∷ 0 ∷ 0 ∷ 0 ∷ []
-- length 1
expected T1 = 0 ∷ 0 ∷ 1 ∷ 1 ∷ []
-- 2
expected T2 = 2 ∷ 9 ∷ 9 ∷ 9 ∷ []
-- 21
expected T3 = 21 ∷ 9 ∷ 9 ∷ 9 ∷ []
-- byte 1: 128
expected D1 = 0 ∷ 128 ∷ []
-- 79
expected D2 = 79 ∷ 9 ∷ []
-- address 5, CS1 high: 8197
expected M1 = 0 ∷ 8197 ∷ []
-- all those pins raised by 8: 8197
expected M2 = 0 ∷ 8197 ∷ []
-- address 8192: 77
expected M3 = 77 ∷ 9 ∷ []

pub starred : (c : Case) → answer c ≡ expected c
unfolding starts_with head_of runtime_header reaches group060_of group062_of group063_of group067_of head_words words060 words062 words063 words067 runtime_words string_call past_window text_p chunks_p judged has_nul before_nul points points_after is_utf8 lacking class_of low_after high_after run read_answer can_read mangle_call demangle_call pins_from mangle_address demangle_byte demangle all_below mangled_by governing_set0 governing mangle_core mangle_of mangle_by mangle_number input_word raised drives rules_of gather taken_bit bit_at is_high rom_type_number rom_type_of pin_map map_of map_by map_number whole_map with_x with_address control_off with_control with_controls base_zero lowered_by least_pin least_of lowered
starred R1 = refl
starred R2 = refl
starred R3 = refl
starred R4 = refl
starred T1 = refl
starred T2 = refl
starred T3 = refl
starred D1 = refl
starred D2 = refl
starred M1 = refl
starred M2 = refl
starred M3 = refl
