-- What document 01 states twice agrees: the sets served, the set count and the rows listed; the stride.
-- Assumes nothing.
use Rattle.std.specs.Prelude.{ℕ, ◌≡◌, refl, Bool, true, false, List, [], length}
use Rattle.std.proofs.Common.{arith, sym, subst}
use Rattle.base.specs.Choice.{pick}
use Rattle.prog.specs.Prog.{run, done}
use Rattle.prog.proofs.Laws.Run.{run_done, run_map}
use Rattle.text.specs.declared.Text.{Text}
use Rattle.header.specs.declared.SdrrInfoHeader.{SdrrInfoHeader}
use Rattle.header.specs.declared.SdrrInfoFields.{SdrrInfoFields}
use Rattle.version.specs.Version.{from060}
use Rattle.walk.specs.Walk.{RomSet, Part, stop, found, walk_p, roms_of, extra_byte, stride}
use Rattle.walk.specs.Rows.{counts_of}
use Rattle.walk.proofs.Laws.Found.{Sound, Counted, walk_sound, counts_roms}
use Rattle.window.specs.declared.Settings.{Settings}
use Rattle.sets_item.specs.declared.SetsItem.{SetsItem}
use Rattle.sdrr_info.specs.declared.SdrrInfo.{SdrrInfo}
use Rattle.fw_parser.specs.Opening.{Looked, metadata_ended, set_count, sets_pointer, Sets, counted, sets_item_p, sets_item, sets_of, opened, open_p}
use Rattle.fw_parser.specs.Laws.Items.{opened_sets}

-- ---- sets

-- Accepted sets are all served, and listed, and count their ROM rows; refused ones are neither served nor listed.
pub data ServedSets (i : SetsItem) (ss : List RomSet) : Type 0 where
  accepted : i.number ≡ 0 → i.served ≡ i.rom_set_count → i.served ≡ length ss → counts_of ss ≡ length (roms_of ss) → ServedSets i ss
  refused : (i.number ≡ 0 → ⊥) → i.served ≡ 0 → ss ≡ [] → ServedSets i ss

-- what the sets item's walk gives, whatever the image
abbrev Walked : Sets → Type 0
Walked t = Sound (λ (ss : List RomSet). (length ss ≡ t.count) × Counted ss) t.walk

sets_walked : (base : ℕ) (h : SdrrInfoHeader) (l : Looked) (x : List ℕ) → Walked (run (sets_item_p base h l) x)
unfolding sets_item_p
sets_walked base h l x =
    subst Walked (sym (run_map x (counted (set_count h l)) (pick (metadata_ended l) (done (stop 2 [])) (walk_p base h.fields (set_count h l) (sets_pointer h l))))) (go (metadata_ended l))
  where
    go : (b : Bool) → Walked (counted (set_count h l) (run (pick b (done (stop 2 [])) (walk_p base h.fields (set_count h l) (sets_pointer h l))) x))
    go true = rw (run_done {A = Part (List RomSet)} x (stop 2 [])) (λ (e : ◌≡◌ {A = ℕ} 2 0). omega arith)
    go false = walk_sound x base h.fields (set_count h l) (sets_pointer h l)

served : (count : ℕ) (w : Part (List RomSet)) → Sound (λ (ss : List RomSet). (length ss ≡ count) × Counted ss) w → ServedSets (sets_item count w) (sets_of w)
served count (stop n passed) e = refused e refl refl
served count (found ss) e = accepted refl refl (sym e.0) (counts_roms ss e.1)

pub served_sets : (s : Settings) (n m : ℕ) (x : List ℕ) (r : SdrrInfo) (ss : List RomSet) (names : List Text)
    → run (open_p s n m) x ≡ opened r ss names → ServedSets r.rom_sets ss
served_sets s n m x r ss names e =
    let o = opened_sets s x n m r ss names e in
    moved o.0 (subst Walked o.1 (sets_walked _ _ _ x)) o.2 o.3
  where
    moved : (t : Sets) → Walked t → sets_item t.count t.walk ≡ r.rom_sets → sets_of t.walk ≡ ss → ServedSets r.rom_sets ss
    moved t w f g = rw (← f, ← g) (served t.count t.walk w)

-- ---- the stride

pub stride_short : (f : SdrrInfoFields) (s : List ℕ) → from060 f.version ≡ false → stride f s ≡ 16
stride_short f s e = rw e refl

pub stride_long : (f : SdrrInfoFields) (s : List ℕ) → from060 f.version ≡ true → extra_byte s ≡ true → stride f s ≡ 64
stride_long f s e g = rw (e, g) refl
