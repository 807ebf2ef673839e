-- The opening, cut short, by its parts: an item is ended or the whole's.
-- Assumes nothing.
use Rattle.std.specs.Prelude.{ℕ, ◌≡◌, refl, ◌⊎◌, List, [], ◌∷◌, take}
use Rattle.std.proofs.Common.{inl, inr, eq-eqb}
use Rattle.prog.specs.Prog.{Prog, also, run}
use Rattle.prog.proofs.Laws.Run.{run_also}
use Rattle.prog.proofs.Laws.Cut.{Cut, OrEnded}
use Rattle.prog.proofs.Laws.Parts.{cut_done, cut_aside, cut_mono, cut_map, cut_also}
use Rattle.prog.proofs.Laws.Honest.{Honest, cut_honest, honest_kept, honest_done, honest_pick, honest_map, cut_after, cut_beside}
use Rattle.text.specs.declared.Text.{Text}
use Rattle.text.proofs.Laws.Chunks.{text_honest}
use Rattle.header.specs.declared.SdrrInfoHeader.{SdrrInfoHeader}
use Rattle.version.specs.Version.{from050}
use Rattle.extra_info.specs.declared.ExtraInfoItem.{ExtraInfoItem}
use Rattle.extra_info.specs.Laws.{extra_info_honest}
use Rattle.metadata.specs.Laws.{metadata_honest}
use Rattle.pins.specs.declared.PinsItem.{PinsItem}
use Rattle.pins.specs.Pins.{pins_p}
use Rattle.pins.specs.Laws.{pins_honest}
use Rattle.walk.specs.Walk.{NameAt, no_name, name_at, Rom, RomSet, Part, stop, found, roms_of}
use Rattle.walk.specs.Names.{name_p, names_p, walk_names_p}
use Rattle.walk.proofs.Laws.Ended.{Ended, walk_honest}
use Rattle.fw_parser.specs.Opening.{Looked, not_looked_for, looked, look_p, metadata_ended, set_count, sets_pointer, Sets, counted, sets_item_p, ItemAnswers, items_p}

-- ---- what is ended

abbrev pub EndedText : Text → Type 0
EndedText t = t.number ≡ 2

abbrev pub EndedExtra : ExtraInfoItem → Type 0
EndedExtra e = e.number ≡ 2

abbrev pub EndedPins : PinsItem → Type 0
EndedPins p = p.number ≡ 2

abbrev pub EndedLook : Looked → Type 0
EndedLook not_looked_for = ⊥
EndedLook (looked m) = m.number ≡ 2

abbrev pub EndedName : List Text → Type 0
EndedName [] = ⊥
EndedName (t ∷ ts) = EndedText t ⊎ EndedName ts

-- every name shown is ended or the whole image's
abbrev pub NamesCut : List Text → List Text → Type 0
NamesCut [] ws = Unit {0}
NamesCut (t ∷ ts) [] = ⊥
NamesCut (t ∷ ts) (w ∷ ws) = OrEnded EndedText t w × NamesCut ts ws

-- ---- names

name_honest : (base : ℕ) (n : NameAt) → Honest EndedText (name_p base n)
unfolding name_p
name_honest base no_name = honest_done
name_honest base (name_at pointer) = text_honest base pointer

names_cut : (base : ℕ) (rs : List Rom) → Cut EndedName NamesCut (names_p base rs) (names_p base rs)
unfolding names_p
names_cut base [] = cut_done tt
names_cut base (r ∷ rs) =
    cut_map (λ t. t.0 ∷ t.1) (λ t. t.0 ∷ t.1)
    (cut_also (cut_honest (name_honest base r.name)) (λ a b h. cut_mono (λ v e. inr e) (λ v w e. e) (names_cut base rs)))
    (λ t e. e) (λ t u e. e)

walk_names_cut : (base : ℕ) (o : Part (List RomSet)) → Cut EndedName NamesCut (walk_names_p base o) (walk_names_p base o)
unfolding walk_names_p
walk_names_cut base (stop n passed) = cut_aside (names_p base passed) (names_p base passed) (cut_done tt)
walk_names_cut base (found ss) = names_cut base (roms_of ss)

-- ---- metadata, sets, names and pins

look_honest : (base : ℕ) (h : SdrrInfoHeader) → Honest EndedLook (look_p base h)
unfolding look_p
look_honest base h =
    honest_pick (from050 h.fields.version) (honest_map looked (metadata_honest base h.rom_sets_ptr) (λ m e. e)) honest_done

abbrev pub EndedSets : Sets → Type 0
EndedSets s = Ended s.walk

sets_honest : (base : ℕ) (h : SdrrInfoHeader) (l : Looked) → Honest EndedSets (sets_item_p base h l)
unfolding sets_item_p
sets_honest base h l =
    honest_map (counted (set_count h l))
    (honest_pick (metadata_ended l) honest_done (walk_honest base h.fields (set_count h l) (sets_pointer h l))) (λ w e. e)

-- sets are marked ended where metadata ended
sets_ended : (base : ℕ) (h : SdrrInfoHeader) (l : Looked) → EndedLook l → (x : List ℕ) → EndedSets (run (sets_item_p base h l) x)
unfolding sets_item_p run
sets_ended base h not_looked_for e x = absurd e
sets_ended base h (looked m) e x = rw (eq-eqb m.number 2 e) refl

-- names and pins behind the sets
abbrev Tail : Type 0
Tail = List Text × PinsItem

abbrev EndedTail : Tail → Type 0
EndedTail t = EndedName t.0 ⊎ EndedPins t.1

abbrev TailCut : Tail → Tail → Type 0
TailCut t u = NamesCut t.0 u.0 × OrEnded EndedPins t.1 u.1

abbrev tail_p : ℕ → SdrrInfoHeader → Sets → Prog Tail
tail_p base h o = also (walk_names_p base o.walk) λ names. pins_p base h.pins_ptr

tail_cut : (base : ℕ) (h : SdrrInfoHeader) (o : Sets) → Cut EndedTail TailCut (tail_p base h o) (tail_p base h o)
tail_cut base h o =
    cut_also (walk_names_cut base o.walk) (λ a b r. cut_mono (λ v e. inr e) (λ v w e. e) (cut_honest (pins_honest base h.pins_ptr)))

-- a refused walk shows no name
no_names : (base : ℕ) (w : Part (List RomSet)) → Ended w → (x : List ℕ) (ws : List Text) → NamesCut (run (walk_names_p base w) x) ws
unfolding walk_names_p run
no_names base (stop n passed) e x ws = tt
no_names base (found ss) e x ws = absurd e

tail_stopped : (base : ℕ) (h : SdrrInfoHeader) (a b : Sets) → EndedSets a → (x : List ℕ) (k : ℕ) → TailCut (run (tail_p base h a) (take k x)) (run (tail_p base h b) x)
tail_stopped base h a b e x k =
    rw (run_also (take k x) (walk_names_p base a.walk) (λ names. pins_p base h.pins_ptr), run_also x (walk_names_p base b.walk) (λ names. pins_p base h.pins_ptr))
    (no_names base a.walk e (take k x) (run (walk_names_p base b.walk) x), honest_kept (pins_honest base h.pins_ptr) x k)

tail_after : (base : ℕ) (h : SdrrInfoHeader) (a b : Sets) → OrEnded EndedSets a b
    → Cut (λ v. EndedSets a ⊎ EndedTail v) TailCut (tail_p base h a) (tail_p base h b)
tail_after base h a b (inl e) = record { values = λ x k. tail_stopped base h a b e x k; takes = λ x k. inl (inl e) }
tail_after base h a b (inr e) = rw e (cut_mono (λ v i. inr i) (λ v w i. i) (tail_cut base h b))

abbrev SetsTail : Type 0
SetsTail = Sets × Tail

abbrev EndedSetsTail : SetsTail → Type 0
EndedSetsTail t = EndedSets t.0 ⊎ EndedTail t.1

abbrev SetsTailCut : SetsTail → SetsTail → Type 0
SetsTailCut t u = OrEnded EndedSets t.0 u.0 × TailCut t.1 u.1

sets_after_is : (base : ℕ) (h : SdrrInfoHeader) (l m : Looked) → OrEnded EndedLook l m
    → Cut (λ v. EndedLook l ⊎ EndedSetsTail v) SetsTailCut (also (sets_item_p base h l) λ s. tail_p base h s) (also (sets_item_p base h m) λ s. tail_p base h s)
sets_after_is base h l m r =
    cut_mono (λ v e. inr e) (λ v w e. e) (cut_also (cut_after (sets_honest base h) (sets_ended base h) l m r) (tail_after base h))

-- ---- all items

abbrev pub EndedRow : ItemAnswers → Type 0
EndedRow t =
    EndedText t.0 ⊎ (EndedText t.1.0 ⊎ (EndedExtra t.1.1.0 ⊎ (EndedLook t.1.1.1.0 ⊎ EndedSetsTail t.1.1.1.1)))

abbrev pub RowCut : ItemAnswers → ItemAnswers → Type 0
RowCut t w =
    OrEnded EndedText t.0 w.0
    × (OrEnded EndedText t.1.0 w.1.0
    × (OrEnded EndedExtra t.1.1.0 w.1.1.0
    × (OrEnded EndedLook t.1.1.1.0 w.1.1.1.0 × SetsTailCut t.1.1.1.1 w.1.1.1.1)))

pub row_cut : (base : ℕ) (h : SdrrInfoHeader) → Cut EndedRow RowCut (items_p base h) (items_p base h)
unfolding items_p
row_cut base h =
    cut_beside (text_honest base h.build_date_ptr)
    (cut_beside (text_honest base h.hw_rev_ptr)
    (cut_beside (extra_info_honest base h.extra_ptr h.fields.version)
    (cut_also (cut_honest (look_honest base h)) (sets_after_is base h))))
