-- Extra info: a failed read is number 2; a short record and a whole one; only the first 256 bytes count; what a pointer gives.
-- Assumes nothing.
use Rattle.std.specs.Prelude.{ℕ, ◌≤◌, ◌<◌, ◌≡◌, true, false, List, Some, None, length, take}
use Rattle.std.proofs.Common.{lt-ltb, le-ltb}
use Rattle.le.specs.Le.{flag_at}
use Rattle.refusal.specs.declared.Refusal.{Refusal}
use Rattle.refusal.specs.Refusal.{number_of}
use Rattle.window.specs.Window.{on_from, pointer_number}
use Rattle.prog.specs.Prog.{run}
use Rattle.prog.proofs.Laws.Honest.{Honest, honesty}
use Rattle.prog.proofs.Laws.Record.{front_byte, front_short, pointer_refused_by, pointer_read_from}
use Rattle.version.specs.declared.FirmwareVersion.{FirmwareVersion}
use Rattle.version.specs.Version.{from060}
use Rattle.extra_info.specs.declared.ExtraInfoItem.{ExtraInfoItem}
use Rattle.extra_info.specs.ExtraInfo.{pio_default_of, extra_info_fields, refused_extra_info, extra_info_of, extra_info_p}

pub extra_info_honest : (base pointer : ℕ) (v : FirmwareVersion) → Honest (λ (a : ExtraInfoItem). a.number ≡ 2) (extra_info_p base pointer v)
unfolding extra_info_p
extra_info_honest base pointer v = search honesty

module _ (v : FirmwareVersion) where
  pub extra_info_front : (s : List ℕ) → extra_info_of v (take 256 s) ≡ extra_info_of v s
  unfolding extra_info_of extra_info_fields
  extra_info_front s = simp (front_short 256, front_byte 256)

  module _ (s : List ℕ) where
    pub pio_given : from060 v ≡ true → pio_default_of v s ≡ Some (flag_at s 7)
    pio_given e = rw e

    pub pio_not_given : from060 v ≡ false → pio_default_of v s ≡ None
    pio_not_given e = rw e

    pub extra_info_short : length s < 256 → extra_info_of v s ≡ refused_extra_info 2
    unfolding extra_info_of
    extra_info_short h = rw (lt-ltb (length s) 256 h)

    pub extra_info_whole : 256 ≤ length s → extra_info_of v s ≡ record { number = 0; extra_info = extra_info_fields v s }
    unfolding extra_info_of
    extra_info_whole h = rw (le-ltb (length s) 256 h)

-- at a pointer: refused, or the record of the image from there onward
module _ (x : List ℕ) (base pointer : ℕ) (v : FirmwareVersion) where
  pub extra_info_pointer_refused : (r : Refusal) → number_of r ≡ pointer_number x base pointer 256 → refused_extra_info (number_of r) ≡ run (extra_info_p base pointer v) x
  unfolding extra_info_p
  extra_info_pointer_refused = pointer_refused_by x base pointer 256 refused_extra_info (extra_info_of v) (extra_info_front v)

  pub extra_info_pointer_read : 0 ≡ pointer_number x base pointer 256 → extra_info_of v (on_from x base pointer) ≡ run (extra_info_p base pointer v) x
  unfolding extra_info_p
  extra_info_pointer_read = pointer_read_from x base pointer 256 refused_extra_info (extra_info_of v) (extra_info_front v)
