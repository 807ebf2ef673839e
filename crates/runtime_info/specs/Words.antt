-- Document 01's number and values for each case of an answer on the runtime record, as words for callers in other languages.
use Rattle.std.specs.Prelude.{ℕ, Bool, true, false, List, [], ◌∷◌, ◌++◌}
use Rattle.runtime_info.specs.declared.SdrrRuntimeInfoHeader.{SdrrRuntimeInfoHeader}
use Rattle.runtime_info.specs.declared.GroupV060.{GroupV060}
use Rattle.runtime_info.specs.declared.GroupV062.{GroupV062}
use Rattle.runtime_info.specs.declared.GroupV063.{GroupV063}
use Rattle.runtime_info.specs.declared.GroupV067.{GroupV067}
use Rattle.runtime_info.specs.declared.RuntimeVersionedFields.{RuntimeVersionedFields}
use Rattle.runtime_info.specs.declared.SdrrRuntimeInfo.{SdrrRuntimeInfo}

-- a flag is 1 or 0
abbrev pub bit : Bool → ℕ
bit true = 1
bit false = 0

-- head: image, set, counting, count, its address, table, size
unfoldable pub head_words : SdrrRuntimeInfoHeader → List ℕ
head_words h =
    h.image_sel ∷ h.rom_set_index ∷ h.count_rom_access ∷ h.access_count ∷ h.access_count_address ∷ h.rom_table_ptr ∷ h.rom_table_size ∷ []

-- a group: 1 and its fields, or zeros throughout where it is absent
unfoldable pub words060 : GroupV060 → List ℕ
words060 (GroupV060.Present v) =
    1 ∷ bit v.overclock_enabled ∷ bit v.status_led_enabled ∷ bit v.swd_enabled ∷ v.fire_vreg ∷ v.ice_freq_mhz ∷ v.fire_freq_mhz ∷ v.sysclk_mhz ∷ []
words060 GroupV060.Absent = 0 ∷ 0 ∷ 0 ∷ 0 ∷ 0 ∷ 0 ∷ 0 ∷ 0 ∷ []

unfoldable pub words062 : GroupV062 → List ℕ
words062 (GroupV062.Present v) = 1 ∷ v.fire_serve_mode ∷ v.bit_mode ∷ []
words062 GroupV062.Absent = 0 ∷ 0 ∷ 0 ∷ []

unfoldable pub words063 : GroupV063 → List ℕ
words063 (GroupV063.Present v) = 1 ∷ bit v.rom_dma_copy ∷ v.num_data_pins ∷ bit v.force_16_bit ∷ []
words063 GroupV063.Absent = 0 ∷ 0 ∷ 0 ∷ 0 ∷ []

unfoldable pub words067 : GroupV067 → List ℕ
words067 (GroupV067.Present v) = 1 ∷ v.peri_en ∷ v.limp_mode ∷ []
words067 GroupV067.Absent = 0 ∷ 0 ∷ 0 ∷ []

-- an accepted record: its head, then the groups in order; 7 + 8 + 3 + 4 + 3 words
unfoldable pub runtime_words : SdrrRuntimeInfoHeader → RuntimeVersionedFields → List ℕ
runtime_words h f =
    head_words h ++ (words060 f.v0_6_0 ++ (words062 f.v0_6_2 ++ (words063 f.v0_6_3 ++ words067 f.v0_6_7)))

-- 0 accepted, or the refusal's number
abbrev pub number_of : SdrrRuntimeInfo → ℕ
number_of (SdrrRuntimeInfo.Parsed h f) = 0
number_of (SdrrRuntimeInfo.Refused n) = n

-- what the lent words hold afterwards: a refusal changes none
abbrev pub words_after : SdrrRuntimeInfo → List ℕ → List ℕ
words_after (SdrrRuntimeInfo.Parsed h f) before = runtime_words h f
words_after (SdrrRuntimeInfo.Refused n) before = before
