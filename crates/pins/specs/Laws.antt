-- Pins: a failed read is number 2; the record's refusals in order; only its first 88 bytes count; what a pointer gives.
-- Assumes nothing.
use Rattle.std.specs.Prelude.{ℕ, ◌≤◌, ◌<◌, ◌≡◌, true, false, List, length, take}
use Rattle.std.proofs.Common.{lt-ltb, le-ltb}
use Rattle.refusal.specs.declared.Refusal.{Refusal}
use Rattle.refusal.specs.Refusal.{number_of}
use Rattle.window.specs.Window.{on_from, pointer_number}
use Rattle.prog.specs.Prog.{run}
use Rattle.prog.proofs.Laws.Honest.{Honest, honesty}
use Rattle.prog.proofs.Laws.Record.{front_byte, front_short, pointer_refused_by, pointer_read_from}
use Rattle.pins.specs.declared.PinsItem.{PinsItem}
use Rattle.pins.specs.Pins.{pins_fields, refused_pins, unknown_port, pins_of, pins_p}

pub pins_honest : (base pointer : ℕ) → Honest (λ (a : PinsItem). a.number ≡ 2) (pins_p base pointer)
unfolding pins_p
pins_honest base pointer = search honesty

pub pins_front : (s : List ℕ) → pins_of (take 88 s) ≡ pins_of s
unfolding pins_of pins_fields
pins_front s = simp (front_short 88, front_byte 88)

module _ (s : List ℕ) where
  pub pins_short : length s < 88 → pins_of s ≡ refused_pins 2
  unfolding pins_of
  pins_short h = rw (lt-ltb (length s) 88 h)

  module _ (whole : 88 ≤ length s) where
    pub pins_unknown_port : unknown_port s ≡ true → pins_of s ≡ refused_pins 50
    unfolding pins_of
    pins_unknown_port e = rw (le-ltb (length s) 88 whole, e)

    pub pins_whole : unknown_port s ≡ false → pins_of s ≡ record { number = 0; pins = pins_fields s }
    unfolding pins_of
    pins_whole e = rw (le-ltb (length s) 88 whole, e)

-- at a pointer: refused, or the record of the image from there onward
module _ (x : List ℕ) (base pointer : ℕ) where
  pub pins_pointer_refused : (r : Refusal) → number_of r ≡ pointer_number x base pointer 88 → refused_pins (number_of r) ≡ run (pins_p base pointer) x
  unfolding pins_p
  pins_pointer_refused = pointer_refused_by x base pointer 88 refused_pins pins_of pins_front

  pub pins_pointer_read : 0 ≡ pointer_number x base pointer 88 → pins_of (on_from x base pointer) ≡ run (pins_p base pointer) x
  unfolding pins_p
  pins_pointer_read = pointer_read_from x base pointer 88 refused_pins pins_of pins_front
