-- Every read of an opening asks for at least one byte. So the byte before the reach's end was taken by a shown read.
-- Assumes nothing.
use Rattle.std.specs.Prelude.{ℕ, zero, suc, ◌+◌, ◌-◌, ◌<◌, ◌≡◌, ◌⊎◌, Bool, true, false, ◌&&◌, not, List, [], ◌∷◌, ◌++◌, ltb, eqb, length}
use Rattle.std.proofs.Common.{arith, sym, ap, ◌∙◌, subst, ⊎_elim}
use Rattle.base.specs.Choice.{pick}
use Rattle.window.specs.Window.{can_read}
use Rattle.window.specs.Laws.{past_false}
use Rattle.prog.specs.Prog.{Answer, failed, got, Reads, no_more, look, Prog, done, read, unshown, ◌>>=◌, also, map_p, fetch, and_then, reads_of, aside, answer, Span, taken, run, trace, Takes, reach, or_else, record_p}
use Rattle.prog.proofs.Laws.Run.{run_failed, run_bind}
use Rattle.prog.proofs.Laws.Reach.{Filled, end_last, takes_end}
use Rattle.version.specs.Version.{from050}
use Rattle.version.specs.declared.FirmwareVersion.{FirmwareVersion}
use Rattle.text.specs.Text.{has_nul, chunks_p, text_p}
use Rattle.header.specs.declared.SdrrInfoFields.{SdrrInfoFields}
use Rattle.header.specs.declared.SdrrInfoHeader.{SdrrInfoHeader}
use Rattle.header.specs.Header.{HeaderAnswer, has_filenames, refused_header, header_of, header_p}
use Rattle.extra_info.specs.ExtraInfo.{refused_extra_info, extra_info_of, extra_info_p}
use Rattle.metadata.specs.Metadata.{refused_metadata, metadata_of, metadata_p}
use Rattle.pins.specs.Pins.{refused_pins, pins_of, pins_p}
use Rattle.walk.specs.Walk.{NameAt, no_name, name_at, Rom, RomSet, Part, stop, found, or_stop, info_size, stride, rom_p, roms_p, table_p, pointed_p, set_p, sets_p, walk_p, roms_of}
use Rattle.walk.specs.Names.{name_p, names_p, walk_names_p}
use Rattle.window.specs.declared.Settings.{Settings}
use Rattle.fw_parser.specs.Opening.{Looked, looked, look_p, metadata_ended, set_count, sets_pointer, counted, sets_item_p, items_p, refused, after_header, open_p, opening, open_with}
use Rattle.cut_short.specs.Demand3.{Opens, reach_with}
use Rattle.cut_short.proofs.Laws.CutOpening.{after_ended}
use Rattle.cut_short.proofs.Laws.Proof.{opens_inside, opening_run, demand3}

-- ---- reads of at least one byte, shown or not

unfoldable pub AsksReads : Reads → Type 0
AsksReads no_more = Unit {0}
AsksReads (look base a n k) = (0 < n) × ((w : Answer) → AsksReads (k w))

unfoldable AsksEach : {A : Type 0} → Prog A → Type 0
AsksEach (done a) = Unit {0}
AsksEach (read base a n k) = (0 < n) × ((w : Answer) → AsksEach (k w))
AsksEach (unshown r p) = AsksReads r × AsksEach p

pub record Asks {A : Type 0} (p : Prog A) : Type 0 where
  each : AsksEach p

filled_taken : (w : Answer) (s : Span) (t : List Span) → 0 < s.size → Filled t → Filled (taken w s t)
unfolding Filled
filled_taken failed s t l h = h
filled_taken (got bs) s t l h = (l, h)

asks_filled : {A : Type 0} (p : Prog A) (x : List ℕ) → AsksEach p → Filled (trace p x)
unfolding AsksEach trace Filled
asks_filled (done a) x h = tt
asks_filled (read base a n k) x h =
    filled_taken (answer x base a n) (record { offset = a - base; size = n }) (trace (k (answer x base a n)) x) h.0 (asks_filled (k (answer x base a n)) x (h.1 (answer x base a n)))
asks_filled (unshown r p) x h = asks_filled p x h.1

-- a shown read took the byte before the reach's end, if any took one
pub last_taken : {A : Type 0} (p : Prog A) (x : List ℕ) → Asks p → (reach p x ≡ 0) ⊎ Takes (trace p x) (reach p x - 1)
last_taken p x h = end_last (trace p x) (asks_filled p x h.each)

-- ---- the rules, by the form of the program

then_each : (r s : Reads) → AsksReads r → AsksReads s → AsksReads (and_then r s)
unfolding AsksReads and_then
then_each no_more s h i = i
then_each (look base a n k) s h i = (h.0, λ w. then_each (k w) s (h.1 w) i)

reads_each : {A : Type 0} (p : Prog A) → AsksEach p → AsksReads (reads_of p)
unfolding AsksEach AsksReads reads_of
reads_each (done a) h = tt
reads_each (read base a n k) h = (h.0, λ w. reads_each (k w) (h.1 w))
reads_each (unshown r p) h = then_each r (reads_of p) h.0 (reads_each p h.1)

bind_each : {A B : Type 0} (p : Prog A) (f : A → Prog B) → AsksEach p → ((a : A) → AsksEach (f a)) → AsksEach (p >>= f)
unfolding AsksEach
bind_each (done a) f h i = i a
bind_each (read base a n k) f h i = (h.0, λ w. bind_each (k w) f (h.1 w) i)
bind_each (unshown r p) f h i = (h.0, bind_each p f h.1 i)

fetch_each : {A : Type 0} (base a n : ℕ) (e : A) (k : List ℕ → Prog A) → 0 < n → ((bs : List ℕ) → AsksEach (k bs)) → AsksEach (fetch base a n e k)
unfolding AsksEach
fetch_each base a n e k l h = (l, go)
  where
    go : (w : Answer) → AsksEach (or_else e k w)
    go failed = tt
    go (got bs) = h bs

module _ {A : Type 0} where
  asks_done : {a : A} → Asks (done a)
  unfolding AsksEach
  asks_done = record { each = tt }

  asks_fetch : {base a : ℕ} (n : ℕ) {e : A} {k : List ℕ → Prog A} → 0 < n → ((bs : List ℕ) → Asks (k bs)) → Asks (fetch base a n e k)
  asks_fetch {base} {a} n {e} {k} l h = record { each = fetch_each base a n e k l (λ bs. (h bs).each) }

  asks_pick : {p q : Prog A} (b : Bool) → Asks p → Asks q → Asks (pick b p q)
  asks_pick true h i = h
  asks_pick false h i = i

  asks_aside : {B : Type 0} {p : Prog B} {q : Prog A} → Asks p → Asks q → Asks (aside p q)
  unfolding AsksEach
  asks_aside {p = p} h i = record { each = (reads_each p h.each, i.each) }

module _ {A B : Type 0} where
  asks_bind : {p : Prog A} {f : A → Prog B} → Asks p → ((a : A) → Asks (f a)) → Asks (p >>= f)
  asks_bind {p} {f} h i = record { each = bind_each p f h.each (λ a. (i a).each) }

module _ {A B : Type 0} where
  asks_map : (f : A → B) {p : Prog A} → Asks p → Asks (map_p f p)
  asks_map f h = asks_bind h (λ a. asks_done)

  asks_also : {p : Prog A} {f : A → Prog B} → Asks p → ((a : A) → Asks (f a)) → Asks (also p f)
  asks_also h i = asks_bind h (λ a. asks_bind (i a) (λ b. asks_done))

module _ {A B : Type 0} where
  asks_or_stop : (passed : List Rom) {p : Prog (Part A)} {f : A → Prog (Part B)} → Asks p → ((a : A) → Asks (f a)) → Asks (p >>= or_stop passed f)
  asks_or_stop passed {f = f} h i = asks_bind h go
    where
      go : (o : Part A) → Asks (or_stop passed f o)
      go (stop n roms) = asks_done
      go (found a) = i a

ruleset forms = (asks_done, asks_pick, asks_or_stop)

-- ---- the readers

asks_record : {A : Type 0} (base pointer n : ℕ) (or_number : ℕ → A) (rec_of : List ℕ → A) → 0 < n → Asks (record_p base pointer n or_number rec_of)
asks_record base pointer n or_number rec_of l = asks_pick (ltb pointer base) asks_done (asks_fetch n l (λ s. asks_done))

chunks_ask : (left base offset a : ℕ) (s : List ℕ) → Asks (chunks_p left base offset a s)
unfolding chunks_p
chunks_ask zero base offset a s = asks_done
chunks_ask (suc left) base offset a s = asks_fetch 64 (omega arith) (λ chunk. asks_pick (has_nul chunk) asks_done (chunks_ask left base offset (a + 64) (s ++ chunk)))

text_asks : (base pointer : ℕ) → Asks (text_p base pointer)
unfolding text_p
text_asks base pointer = asks_pick (ltb pointer base) asks_done (chunks_ask 16 base (pointer - base) pointer [])

header_asks : (flash_base info_offset : ℕ) → Asks (header_p flash_base info_offset)
unfolding header_p
header_asks flash_base info_offset = asks_fetch 64 (omega arith) (λ s. asks_done)

extra_asks : (base pointer : ℕ) (v : FirmwareVersion) → Asks (extra_info_p base pointer v)
unfolding extra_info_p
extra_asks base pointer v = asks_record base pointer 256 refused_extra_info (extra_info_of v) (omega arith)

metadata_asks : (base pointer : ℕ) → Asks (metadata_p base pointer)
unfolding metadata_p
metadata_asks base pointer = asks_record base pointer 256 refused_metadata metadata_of (omega arith)

pins_asks : (base pointer : ℕ) → Asks (pins_p base pointer)
unfolding pins_p
pins_asks base pointer = asks_record base pointer 88 refused_pins pins_of (omega arith)

-- ---- the walk and its names

info_asks : (filenames : Bool) → 0 < info_size filenames
info_asks true = omega arith
info_asks false = omega arith

rom_asks : (base : ℕ) (filenames : Bool) (entry : ℕ) → Asks (rom_p base filenames entry)
unfolding rom_p
rom_asks base filenames entry = asks_fetch 4 (omega arith) (λ p. asks_fetch (info_size filenames) (info_asks filenames) (λ s. asks_done))

roms_ask : (left base : ℕ) (filenames : Bool) (entry : ℕ) (passed : List Rom) → Asks (roms_p left base filenames entry passed)
unfolding roms_p
roms_ask zero base filenames entry passed = asks_done
roms_ask (suc left) base filenames entry passed =
    asks_or_stop passed (rom_asks base filenames entry) (λ rom. roms_ask left base filenames (entry + 4) (passed ++ (rom ∷ [])))

table_asks : (base : ℕ) (filenames : Bool) (count table : ℕ) → Asks (table_p base filenames count table)
unfolding table_p
table_asks base filenames count table = search (forms, roms_ask) depth 9

pointed_asks : (base : ℕ) (counts : Bool) (pointer : ℕ) → Asks (pointed_p base counts pointer)
unfolding pointed_p
pointed_asks base counts pointer =
    asks_pick (counts && (not (eqb pointer 0) && not (eqb pointer 4294967295))) (asks_fetch 64 (omega arith) (λ s. asks_done)) asks_done

set_asks : (base : ℕ) (filenames : Bool) (s : List ℕ) → Asks (set_p base filenames s)
unfolding set_p
set_asks base filenames s = search (forms, pointed_asks, table_asks) depth 12

sets_ask : (left base : ℕ) (f : SdrrInfoFields) (address : ℕ) (passed : List RomSet) → Asks (sets_p left base f address passed)
unfolding sets_p
sets_ask zero base f address passed = asks_done
sets_ask (suc left) base f address passed =
    asks_fetch 64 (omega arith) (λ s. asks_or_stop (roms_of passed) (set_asks base (has_filenames f) s) (λ set. sets_ask left base f (address + stride f s) (passed ++ (set ∷ []))))

walk_asks : (base : ℕ) (f : SdrrInfoFields) (count pointer : ℕ) → Asks (walk_p base f count pointer)
unfolding walk_p
walk_asks base f count pointer = search (forms, sets_ask) depth 9

name_asks : (base : ℕ) (n : NameAt) → Asks (name_p base n)
unfolding name_p
name_asks base no_name = asks_done
name_asks base (name_at pointer) = text_asks base pointer

names_ask : (base : ℕ) (rs : List Rom) → Asks (names_p base rs)
unfolding names_p
names_ask base [] = asks_done
names_ask base (r ∷ rs) = asks_map (λ t. t.0 ∷ t.1) (asks_also (name_asks base r.name) (λ t. names_ask base rs))

walk_names_ask : (base : ℕ) (o : Part (List RomSet)) → Asks (walk_names_p base o)
unfolding walk_names_p
walk_names_ask base (stop n passed) = asks_aside (names_ask base passed) asks_done
walk_names_ask base (found ss) = names_ask base (roms_of ss)

-- ---- the opening

look_asks : (base : ℕ) (h : SdrrInfoHeader) → Asks (look_p base h)
unfolding look_p
look_asks base h = asks_pick (from050 h.fields.version) (asks_map looked (metadata_asks base h.rom_sets_ptr)) asks_done

sets_item_asks : (base : ℕ) (h : SdrrInfoHeader) (l : Looked) → Asks (sets_item_p base h l)
unfolding sets_item_p
sets_item_asks base h l = asks_map (counted (set_count h l)) (asks_pick (metadata_ended l) asks_done (walk_asks base h.fields (set_count h l) (sets_pointer h l)))

items_ask : (base : ℕ) (h : SdrrInfoHeader) → Asks (items_p base h)
unfolding items_p
items_ask base h =
    asks_also (text_asks base h.build_date_ptr) λ date.
    asks_also (text_asks base h.hw_rev_ptr) λ rev.
    asks_also (extra_asks base h.extra_ptr h.fields.version) λ extra.
    asks_also (look_asks base h) λ l.
    asks_also (sets_item_asks base h l) λ sets.
    asks_also (walk_names_ask base sets.walk) λ names.
    pins_asks base h.pins_ptr

pub open_asks : (s : Settings) (lent_sets lent_roms : ℕ) → Asks (open_p s lent_sets lent_roms)
unfolding open_p
open_asks s lent_sets lent_roms =
    asks_bind (header_asks s.flash_base s.info_offset) λ a.
    asks_pick (eqb a.number 0) (asks_map _ (items_ask _ a.header)) asks_done

-- ---- the reach of an opened image

-- an image without bytes does not open
empty_refused : (s : Settings) (n m : ℕ) → Opens (opening s n m []) → ⊥
unfolding open_p header_p
empty_refused s n m o =
    let f = s.flash_base in
    let a = f + s.info_offset in
    let failed : can_read [] f a 64 ≡ false = past_false [] f a 64 (omega arith) in
    let ended : run (header_p f s.info_offset) [] ≡ refused_header 2 = run_failed [] f a 64 (refused_header 2) (λ s. done (header_of s)) failed in
    let refused_2 : run (open_p s n m) [] ≡ refused 2 =
    run_bind [] (header_p f s.info_offset) (after_header s n m) ∙ after_ended s n m (run (header_p f s.info_offset) []) (ap (λ (h : HeaderAnswer). h.number) ended) [] in
    subst Opens (opening_run s n m [] (opens_inside s n m [] o) ∙ refused_2) o

-- The reach is exact: it holds a byte, and a shown read took its last one.
pub reach_exact : (s : Settings) (sets roms x : List ℕ) → Opens (open_with s sets roms x)
    → (0 < reach_with s sets roms x) × Takes (trace (open_p s (length sets) (length roms)) x) (reach_with s sets roms x - 1)
reach_exact s sets roms x o =
    ⊎_elim
    (λ (e : reach_with s sets roms x ≡ 0).
    absurd (empty_refused s (length sets) (length roms) (subst Opens (sym ((demand3 s sets roms x o 0).report_past (omega arith))) o)))
    (λ (t : Takes (trace (open_p s (length sets) (length roms)) x) (reach_with s sets roms x - 1)).
    let l : 0 < reach_with s sets roms x = let i = takes_end (trace (open_p s (length sets) (length roms)) x) (reach_with s sets roms x - 1) t in omega arith in
    (l, t))
    (last_taken (open_p s (length sets) (length roms)) x (open_asks s (length sets) (length roms)))
