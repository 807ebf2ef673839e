-- Pins set one after the other come to the map and its placing.
-- Assumes nothing.
use Rattle.std.specs.Prelude.{ℕ, zero, suc, ◌+◌, ◌*◌, ◌-◌, ◌^◌, ◌<◌, ◌≡◌, refl, Bool, true, false, not, List, [], ◌∷◌, map, ltb, eqb, length, get_or, set}
use Rattle.std.proofs.Common.{pow-suc, mul_assoc, not-suc-le-zero, le_of_suc-le-suc, arith, sym, ap, ◌∙◌, length-set, ltb-true, ltb-false}
use Rattle.std.proofs.Math.ListN.{get_or-eq_default}
use Rattle.std.proofs.Math.Seq.{set_out}
use Rattle.base.specs.Choice.{pick}
use Rattle.types.specs.declared.SdrrRomType.{SdrrRomType}
use Rattle.types.specs.declared.SdrrCsSet.{SdrrCsSet}
use Rattle.board.specs.declared.BoardPins.{BoardPins}
use Rattle.demangle.specs.Bits.{none, is_bit, bit_at, taken_bit, gather}
use Rattle.demangle.specs.Laws.{taken_lt, bit_gather}
use Rattle.least_pin.specs.LeastPin.{least_pin}
use Rattle.base_zero.specs.BaseZero.{lowered, lowered_by, base_zero}
use Rattle.pin_words.specs.Code.{on_pin, on_pins, all_high, placed}
use Rattle.pin_words.specs.Laws.{on_lt, all_high_is}
use Rattle.rom_rules.specs.Rules.{control_bits, is_28c16, several, above_mask, mangle_number}
use Rattle.input_word.specs.Input.{levels, input_word}
use Rattle.mangle.specs.PinMap.{unmapped, with_address, address_map, with_x, control_pins, with_control, with_controls, is_mapped, map_number, whole_map, map_by, map_of, pin_map}
use Rattle.mangle.specs.Mangle.{mangled_to, mangle_by, mangle_of, mangle_core}
use Rattle.mangle.specs.Laws.Bits.{address_length, x_length, one_length}
use Rattle.mangle.specs.Code.{is_high_pin, on_x, on_control, on_controls, word_number, whole_word, mangle_word}

pub x_lt : (v x1 x2 w : ℕ) → v < 65536 → on_x v x1 x2 w < 65536
unfolding on_x
x_lt v x1 x2 w h = on_lt (on_pin v x1 (taken_bit w 14)) x2 (taken_bit w 15) (on_lt v x1 (taken_bit w 14) h (taken_lt w 14)) (taken_lt w 15)

pub control_lt : (v p b w : ℕ) → v < 65536 → on_control v p b w < 65536
unfolding on_control
control_lt v p b w h = go (is_bit b)
  where
    go : (c : Bool) → pick c (on_pin v p (taken_bit w b)) v < 65536
    go true = on_lt v p (taken_bit w b) h (taken_lt w b)
    go false = h

-- an entry exchanged
exchanged : (m : List ℕ) (x p e : ℕ) → p < length m
    → gather (set m p e) x + taken_bit x (get_or m p none) * 2 ^ p ≡ gather m x + taken_bit x e * 2 ^ p
unfolding gather
exchanged [] x p e h = absurd (not-suc-le-zero h)
exchanged (d ∷ m) x zero e h = omega arith
exchanged (d ∷ m) x (suc p) e h =
    rw (pow-suc 2 p, ← mul_assoc (taken_bit x (get_or m p none)) (2 ^ p) 2, ← mul_assoc (taken_bit x e) (2 ^ p) 2)
    (let i = exchanged m x p e (le_of_suc-le-suc h) in omega arith)

none_taken : (x : ℕ) → taken_bit x none ≡ 0
unfolding taken_bit
none_taken x = refl

pub on_gather : (m : List ℕ) (x p e : ℕ) → length m ≡ 16 → on_pin (gather m x) p (taken_bit x e) ≡ gather (set m p e) x
unfolding on_pin
on_gather m x p e h = go (ltb p 16) refl
  where
    go : (c : Bool) → ltb p 16 ≡ c
        → pick c (gather m x - bit_at (gather m x) p * 2 ^ p + taken_bit x e * 2 ^ p) (gather m x) ≡ gather (set m p e) x
    go true t =
        let k : p < length m = rw h (ltb-true p 16 t) in
        let i = exchanged m x p e k in
        let j : gather (set m p none) x + taken_bit x (get_or m p none) * 2 ^ p ≡ gather m x + 0 * 2 ^ p = rw (none_taken x) at (exchanged m x p none k) in
        rw (bit_gather m x p) (omega arith)
    go false t = ap (λ l. gather l x) (sym (set_out m p e (rw h (ltb-false p 16 t))))

-- ---- the address pins, X1 and X2, the control pins

pub pins_gather : (ps : List ℕ) (i x : ℕ) (m : List ℕ) → length m ≡ 16 → on_pins ps i x (gather m x) ≡ gather (with_address ps i m) x
unfolding on_pins with_address
pins_gather [] i x m h = refl
pins_gather (p ∷ ps) i x m h = rw (on_gather m x p i h) (pins_gather ps (suc i) x (set m p i) (length-set m p i ∙ h))

x_gather : (m : List ℕ) (x1 x2 x : ℕ) → length m ≡ 16 → on_x (gather m x) x1 x2 x ≡ gather (with_x m x1 x2) x
unfolding on_x with_x
x_gather m x1 x2 x h = rw (on_gather m x x1 14 h) (on_gather (set m x1 14) x x2 15 (length-set m x1 14 ∙ h))

control_gather : (m : List ℕ) (p b x : ℕ) → length m ≡ 16 → on_control (gather m x) p b x ≡ gather (with_control m p b) x
unfolding on_control with_control
control_gather m p b x h = go (is_bit b)
  where
    go : (c : Bool) → pick c (on_pin (gather m x) p (taken_bit x b)) (gather m x) ≡ gather (pick c (set m p b) m) x
    go true = on_gather m x p b h
    go false = refl

controls_gather : (ps bs : List ℕ) (x : ℕ) (m : List ℕ) → length m ≡ 16 → on_controls ps bs x (gather m x) ≡ gather (with_controls ps bs m) x
unfolding on_controls with_controls
controls_gather [] bs x m h = refl
controls_gather (p ∷ ps) [] x m h = refl
controls_gather (p ∷ ps) (b ∷ bs) x m h =
    rw (control_gather m p b x h) (controls_gather ps bs x (with_control m p b) (one_length m p b ∙ h))

whole_gather : (m : List ℕ) (x1 x2 : ℕ) (controls : List ℕ) (count : ℕ) (type : SdrrRomType) (x : ℕ) → length m ≡ 16
    → whole_word (gather m x) x1 x2 controls count type x ≡ gather (whole_map m x1 x2 controls count type) x
unfolding whole_word whole_map
whole_gather m x1 x2 controls count type x h = go (several count)
  where
    go : (c : Bool) → on_controls controls (control_bits type) x (pick c (on_x (gather m x) x1 x2 x) (gather m x))
        ≡ gather (with_controls controls (control_bits type) (pick c (with_x m x1 x2) m)) x
    go true =
        rw (x_gather m x1 x2 x h) (controls_gather controls (control_bits type) x (with_x m x1 x2) (x_length m x1 x2 ∙ h))
    go false = controls_gather controls (control_bits type) x m h

-- ---- the numbers

-- a pin is high under the word of ones if an address bit is on it
high_mapped : (m : List ℕ) (p : ℕ) → length m ≡ 16 → is_high_pin (gather m all_high) p ≡ is_mapped m p
unfolding taken_bit
high_mapped m p h = go (is_bit p) refl
  where
    at : (e : ℕ) (c : Bool) → ltb e 32 ≡ c → eqb (pick c (bit_at all_high e) 0) 1 ≡ c
    at e true t = rw (all_high_is e (ltb-true e 32 t)) refl
    at e false t = refl

    go : (c : Bool) → ltb p 32 ≡ c → eqb (pick c (bit_at (gather m all_high) p) 0) 1 ≡ is_mapped m p
    go true t = rw (bit_gather m all_high p) (at (get_or m p none) (is_bit (get_or m p none)) refl)
    go false t =
        let k = ltb-false p 32 t in
        rw (get_or-eq_default m none {n = p} (omega arith)) refl

number_mapped : (m : List ℕ) (x1 x2 : ℕ) (controls : List ℕ) (count : ℕ) (type : SdrrRomType) → length m ≡ 16
    → word_number (gather m all_high) x1 x2 controls count type ≡ map_number m x1 x2 controls count type
unfolding word_number map_number
number_mapped m x1 x2 controls count type h = rw (high_mapped m x1 h, high_mapped m x2 h) refl

-- ---- the whole

-- where the map has a number the pins do not count
kept : (n rest x : ℕ) (l : List ℕ)
    → mangled_to (pick (not (eqb n 0)) n rest) (gather l x) ≡ mangled_to (pick (not (eqb n 0)) n rest) (gather (pick (eqb n 0) l unmapped) x)
kept n rest x l = go (eqb n 0) refl
  where
    go : (c : Bool) → eqb n 0 ≡ c → mangled_to (pick (not c) n rest) (gather l x) ≡ mangled_to (pick (not c) n rest) (gather (pick c l unmapped) x)
    go true e = refl
    go false e = rw e refl

pub word_mangles : (m : List ℕ) (x1 x2 : ℕ) (controls : List ℕ) (count : ℕ) (type : SdrrRomType) (address : ℕ) (ls : List Bool) → length m ≡ 16
    → mangle_word
    record { value = gather m (input_word type count ls address); mapped = gather m all_high }
    x1
    x2
    controls
    count
    type
    address
    (input_word type count ls address)
    ≡ mangle_by (map_by m x1 x2 controls count type) count type address ls
unfolding mangle_word mangle_by map_by mangle_number
word_mangles m x1 x2 controls count type address ls h =
    let w = input_word type count ls address in
    rw (number_mapped m x1 x2 controls count type h, whole_gather m x1 x2 controls count type w h)
    (kept (map_number m x1 x2 controls count type) (pick (above_mask type address) 77 (pick (is_28c16 type) 78 0)) w (whole_map m x1 x2 controls count type))

placed_gather : (ps : List ℕ) (x : ℕ) → on_pins ps 0 x 0 ≡ gather (address_map ps) x
unfolding gather taken_bit
placed_gather ps x = pins_gather ps 0 x unmapped refl

-- the address pins lowered by the least pin, the other pins as base-zero has them
pub word_core : (pins : BoardPins) (count : ℕ) (type : SdrrRomType) (address : ℕ) (set : SdrrCsSet)
    → mangle_word
    (placed (map (lowered (least_pin pins)) pins.addr) (input_word type count (levels set) address))
    (base_zero pins).x1
    (base_zero pins).x2
    (control_pins (base_zero pins))
    count
    type
    address
    (input_word type count (levels set) address)
    ≡ mangle_core pins count type address set
unfolding mangle_core mangle_of pin_map map_of base_zero lowered_by
word_core pins count type address set =
    let p = base_zero pins in
    let ps = map (lowered (least_pin pins)) pins.addr in
    let w = input_word type count (levels set) address in
    rw (placed_gather ps w, placed_gather ps all_high)
    (word_mangles (address_map ps) p.x1 p.x2 (control_pins p) count type address (levels set) (address_length ps 0 unmapped))

-- the map's number, with the pins that address bits are on
pub word_number_is : (pins : BoardPins) (count : ℕ) (type : SdrrRomType) (word : ℕ)
    → word_number
    (placed (map (lowered (least_pin pins)) pins.addr) word).mapped
    (base_zero pins).x1
    (base_zero pins).x2
    (control_pins (base_zero pins))
    count
    type
    ≡ (pin_map pins count type).number
unfolding pin_map map_of map_by base_zero lowered_by
word_number_is pins count type word =
    let p = base_zero pins in
    let ps = map (lowered (least_pin pins)) pins.addr in
    rw (placed_gather ps all_high)
    (number_mapped (address_map ps) p.x1 p.x2 (control_pins p) count type (address_length ps 0 unmapped))
