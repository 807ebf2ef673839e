-- ROM reads on two boards that differ in names, and in pins only where these ended: what the first accepts, the second answers alike.
-- Assumes nothing.
use Rattle.std.specs.Prelude.{ℕ, ◌⊎◌, Bool, not, List, eqb, length, get_or}
use Rattle.std.proofs.Common.{arith, ◌∙◌, eqb-true, ne_eqb, eq-eqb, le-leb}
use Rattle.std.proofs.Math.Path.{◌≡◌, refl, sym, ap}
use Rattle.std.proofs.Math.Logic.{⊎_elim}
use Rattle.std.proofs.Math.Bool.{true, false}
use Rattle.std.proofs.lemmas.Bool.{eqb-false}
use Rattle.base.specs.Laws.{cases}
use Rattle.base.specs.Choice.{pick}
use Rattle.prog.specs.Prog.{done, run}
use Rattle.prog.proofs.Laws.Run.{run_map}
use Rattle.prog.proofs.Laws.Honest.{Honest, honest_done, honest_pick, honest_map, honesty}
use Rattle.types.specs.declared.SdrrCsSet.{SdrrCsSet}
use Rattle.governing.specs.Governing.{governing, governing_set0, governing_own}
use Rattle.mangle.specs.Mangle.{Mangled}
use Rattle.info.proofs.Laws.Steps.{own_accepted}
use Rattle.info.specs.declared.SdrrAddress.{SdrrAddress}
use Rattle.info.specs.Lent.{Lent, first_rom, type_word, mangled_by, mangle_address, mangle_own, demangle_byte}
use Rattle.info.specs.Reads.{Bytes, no_bytes, data_p, shown_byte, RomRead, range, byte, own, physical, own_physical, byte_p, stored_p, shown_of, count_number, length_of, finished, read_p}

-- the same line, sets and types; pins the same unless they ended
pub record Like (l m : Lent) : Type 0 where
  pub lines : l.line ≡ m.line
  pub pins : (l.pins.number ≡ 2) ⊎ (l.pins ≡ m.pins)
  pub served : l.served ≡ m.served
  pub set_words : l.set_words ≡ m.set_words
  pub rom_rows : length l.rom_words ≡ length m.rom_words
  pub types : (row : ℕ) → type_word l.rom_words row ≡ type_word m.rom_words row

abbrev EndedBytes : Bytes → Type 0
EndedBytes b = b.number ≡ 2

-- an accepted read took accepted bytes
stored_accepted : (l : Lent) (count : ℕ) (r : RomRead) (b : Bytes) → (finished l count r b).number ≡ 0 → b.number ≡ 0
unfolding finished
stored_accepted l count r b e = go (eqb b.number 0) refl e
  where
    go : (c : Bool) → eqb b.number 0 ≡ c
        → (pick (not c) b (pick (not (eqb (count_number count (length_of r)) 0)) (no_bytes (count_number count (length_of r))) (shown_of l r b))).number ≡ 0 → b.number ≡ 0
    go true h i = eqb-true b.number 0 h
    go false h i = i

-- a byte that was read had an accepted address
byte_address : (l : Lent) (base set : ℕ) (a : Mangled) (x : List ℕ) → (run (byte_p base l set a) x).number ≡ 0 → a.number ≡ 0
unfolding run
byte_address l base set a x e = go (eqb a.number 0) refl e
  where
    go : (b : Bool) → eqb a.number 0 ≡ b → (run (pick b (data_p base l.served l.set_words set a.value 1) (done (no_bytes a.number))) x).number ≡ 0 → a.number ≡ 0
    go true h i = eqb-true a.number 0 h
    go false h i = i

module _ {l m : Lent} (like : Like l m) where
  -- an accepted mangling has accepted pins
  mangle_pins : (address : ℕ) (levels : SdrrCsSet) → (mangle_address l.pins l.served l.set_words l.rom_words address levels).number ≡ 0 → l.pins ≡ m.pins
  unfolding mangle_address mangled_by governing_set0 governing
  mangle_pins address levels e =
      ⊎_elim (λ (h : l.pins.number ≡ 2). absurd (let z : ◌≡◌ {A = ℕ} 70 0 = rw (ne_eqb l.pins.number 0 (λ (f : l.pins.number ≡ 0). omega arith)) at e in omega arith)) (λ h. h) like.pins

  mangle_like : (address : ℕ) (levels : SdrrCsSet) → (mangle_address l.pins l.served l.set_words l.rom_words address levels).number ≡ 0 → mangle_address l.pins l.served l.set_words l.rom_words address levels ≡ mangle_address m.pins m.served m.set_words m.rom_words address levels
  unfolding mangle_address mangled_by governing_set0 governing
  mangle_like address levels e =
      let p = mangle_pins address levels e in
      let t = like.types (first_rom l.set_words 0) in
      rw (t, like.rom_rows, like.set_words, like.served, p)

  -- by the set's own ROMs too
  own_pins : (set address : ℕ) (levels : SdrrCsSet) → (own_physical l set address levels).number ≡ 0 → l.pins ≡ m.pins
  own_pins set address levels e =
      let pins = (own_accepted l.pins l.served l.set_words l.rom_words set address levels e).accepted_pins in
      ⊎_elim (λ (h : l.pins.number ≡ 2). absurd (omega arith)) (λ h. h) like.pins

  own_like : (set address : ℕ) (levels : SdrrCsSet) → (own_physical l set address levels).number ≡ 0 → own_physical l set address levels ≡ own_physical m set address levels
  unfolding mangle_own mangled_by governing_own governing
  own_like set address levels e =
      let p = own_pins set address levels e in
      let t = like.types (first_rom l.set_words set) in
      rw (t, like.rom_rows, like.set_words, like.served, p)

  -- demangling goes by the pins alone
  demangle_like : (b : ℕ) → (demangle_byte l.pins b).number ≡ 0 → demangle_byte l.pins b ≡ demangle_byte m.pins b
  unfolding demangle_byte
  demangle_like b e =
      ⊎_elim (λ (h : l.pins.number ≡ 2). absurd (let z : ◌≡◌ {A = ℕ} 70 0 = rw (ne_eqb l.pins.number 0 (λ (f : l.pins.number ≡ 0). omega arith)) at e in omega arith))
      (λ (h : l.pins ≡ m.pins). rw h) like.pins

  data_like : (base set offset n : ℕ) → data_p base l.served l.set_words set offset n ≡ data_p base m.served m.set_words set offset n
  unfolding data_p
  data_like base set offset n = rw (like.set_words, like.served)

  -- what a read takes from the image, where the address is accepted
  stored_like : (base : ℕ) (r : RomRead) (x : List ℕ) → (run (stored_p base l r) x).number ≡ 0 → run (stored_p base l r) x ≡ run (stored_p base m r) x
  unfolding stored_p
  stored_like base (range set offset n) x e = rw (data_like base set offset n)
  stored_like base (byte set (SdrrAddress.Raw offset) d) x e = rw (data_like base set offset 1)
  stored_like base (byte set (SdrrAddress.Logical address levels) d) x e =
      let accepted = byte_address l base set (mangle_address l.pins l.served l.set_words l.rom_words address levels) x e in
      rw (mangle_like address levels accepted, data_like base set (mangle_address m.pins m.served m.set_words m.rom_words address levels).value 1)
  stored_like base (own set address levels) x e =
      let accepted = byte_address l base set (own_physical l set address levels) x e in
      rw (own_like set address levels accepted, data_like base set (own_physical m set address levels).value 1)

  demangled_like : (b : Bytes) → (shown_byte l true b).number ≡ 0 → shown_byte l true b ≡ shown_byte m true b
  unfolding shown_byte
  demangled_like b e =
      cases (eqb (demangle_byte l.pins (get_or b.bytes 0 0)).number 0)
      (λ h. rw (demangle_like (get_or b.bytes 0 0) (eqb-true _ 0 h)))
      (λ h. absurd (eqb-false _ 0 h (rw h at e)))

  shown_like : (r : RomRead) (b : Bytes) → (shown_of l r b).number ≡ 0 → shown_of l r b ≡ shown_of m r b
  unfolding shown_byte
  shown_like (range set offset n) b e = refl
  shown_like (byte set a false) b e = refl
  shown_like (byte set a true) b e = demangled_like b e
  shown_like (own set address levels) b e = demangled_like b e

  finished_like : (count : ℕ) (r : RomRead) (b : Bytes) → (finished l count r b).number ≡ 0 → finished l count r b ≡ finished m count r b
  unfolding finished
  finished_like count r b e = go (not (eqb b.number 0)) (not (eqb (count_number count (length_of r)) 0)) e
    where
      go : (c d : Bool)
          → (pick c b (pick d (no_bytes (count_number count (length_of r))) (shown_of l r b))).number ≡ 0
          → pick c b (pick d (no_bytes (count_number count (length_of r))) (shown_of l r b)) ≡ pick c b (pick d (no_bytes (count_number count (length_of r))) (shown_of m r b))
      go true d h = refl
      go false true h = refl
      go false false h = shown_like r b h

  pub read_like : (base count : ℕ) (r : RomRead) (x : List ℕ) → (run (read_p base l count r) x).number ≡ 0 → run (read_p base l count r) x ≡ run (read_p base m count r) x
  unfolding read_p
  read_like base count r x e =
      let f : (finished l count r (run (stored_p base l r) x)).number ≡ 0 = rw (run_map x (finished l count r) (stored_p base l r)) at e in
      let s : run (stored_p base l r) x ≡ run (stored_p base m r) x = stored_like base r x (stored_accepted l count r (run (stored_p base l r) x) f) in
      run_map x (finished l count r) (stored_p base l r) ∙ finished_like count r (run (stored_p base l r) x) f ∙ ap (finished m count r) s
      ∙ sym (run_map x (finished m count r) (stored_p base m r))

-- ---- a failed read is ended, and a board that serves no set gives no byte

finished_ended : (l : Lent) (count : ℕ) (r : RomRead) (b : Bytes) → EndedBytes b → EndedBytes (finished l count r b)
unfolding finished
finished_ended l count r b e = rw (ne_eqb b.number 0 (λ (f : b.number ≡ 0). omega arith)) e

data_honest : (base : ℕ) (l : Lent) (set offset n : ℕ) → Honest EndedBytes (data_p base l.served l.set_words set offset n)
unfolding data_p
data_honest base l set offset n = search honesty

byte_honest : (base : ℕ) (l : Lent) (set : ℕ) (a : Mangled) → Honest EndedBytes (byte_p base l set a)
byte_honest base l set a = honest_pick (eqb a.number 0) (data_honest base l set a.value 1) honest_done

stored_honest : (base : ℕ) (l : Lent) (r : RomRead) → Honest EndedBytes (stored_p base l r)
unfolding stored_p
stored_honest base l (range set offset n) = data_honest base l set offset n
stored_honest base l (byte set a d) = byte_honest base l set (physical l a)
stored_honest base l (own set address levels) = byte_honest base l set (own_physical l set address levels)

pub read_honest : (base : ℕ) (l : Lent) (count : ℕ) (r : RomRead) → Honest EndedBytes (read_p base l count r)
unfolding read_p
read_honest base l count r = honest_map (finished l count r) (stored_honest base l r) (finished_ended l count r)

data_unserved : (base : ℕ) (l : Lent) (set offset n : ℕ) (x : List ℕ) → l.served ≡ 0 → (run (data_p base l.served l.set_words set offset n) x).number ≡ 80
unfolding data_p run
data_unserved base l set offset n x e = rw (e, le-leb 0 set (omega arith)) refl

byte_unserved : (base : ℕ) (l : Lent) (set : ℕ) (a : Mangled) (x : List ℕ) → l.served ≡ 0 → (run (byte_p base l set a) x).number ≡ 0 → ⊥
byte_unserved base l set a x e h =
    let z = data_unserved base l set a.value 1 x e in
    let d : (run (data_p base l.served l.set_words set a.value 1) x).number ≡ 0 = rw (eq-eqb a.number 0 (byte_address l base set a x h)) at h in
    omega arith

stored_unserved : (base : ℕ) (l : Lent) (r : RomRead) (x : List ℕ) → l.served ≡ 0 → (run (stored_p base l r) x).number ≡ 0 → ⊥
unfolding stored_p
stored_unserved base l (range set offset n) x e h = let z = data_unserved base l set offset n x e in omega arith
stored_unserved base l (byte set a d) x e h = byte_unserved base l set (physical l a) x e h
stored_unserved base l (own set address levels) x e h = byte_unserved base l set (own_physical l set address levels) x e h

pub read_unserved : (base : ℕ) (l : Lent) (count : ℕ) (r : RomRead) (x : List ℕ) → l.served ≡ 0 → (run (read_p base l count r) x).number ≡ 0 → ⊥
unfolding read_p
read_unserved base l count r x e h =
    stored_unserved base l r x e (stored_accepted l count r (run (stored_p base l r) x) (rw (run_map x (finished l count r) (stored_p base l r)) at h))
