-- The opening, cut short: from the items to report and rows, and through the header.
-- Assumes nothing.
use Rattle.std.specs.Prelude.{ℕ, zero, suc, ◌<◌, ◌≡◌, ◌⊎◌, Bool, eqb, length, take}
use Rattle.std.proofs.Common.{arith, not-suc-le-zero, le_of_suc-le-suc, sym}
use Rattle.std.proofs.Math.Nat.{suc-le-suc_iff}
use Rattle.std.proofs.Math.Path.{refl, ap, subst}
use Rattle.std.proofs.Math.Logic.{inl, inr, ⊎_elim}
use Rattle.std.proofs.Math.Bool.{true, false}
use mathlib.Core.List.{List, [], ◌∷◌, map}
use borrow.Author.Tests.{le-ltb}
use Rattle.base.specs.Choice.{pick}
use Rattle.window.specs.Window.{base_after}
use Rattle.prog.specs.Prog.{Prog, done, map_p, run}
use Rattle.prog.proofs.Laws.Cut.{Cut, OrEnded}
use Rattle.prog.proofs.Laws.Parts.{cut_done, cut_bind, cut_map}
use Rattle.prog.proofs.Laws.Honest.{cut_honest}
use Rattle.text.specs.declared.Text.{Text}
use Rattle.header.specs.declared.SdrrInfoHeader.{SdrrInfoHeader}
use Rattle.header.specs.Header.{HeaderAnswer}
use Rattle.header.specs.Laws.{header_honest}
use Rattle.metadata.specs.declared.MetadataItem.{MetadataItem}
use Rattle.walk.specs.Walk.{RomSet, Part, stop, found, roms_of}
use Rattle.walk.specs.Rows.{set_rows_of, rom_front, short_sets, short_roms}
use Rattle.walk.proofs.Laws.Ended.{Ended}
use Rattle.window.specs.declared.Settings.{Settings}
use Rattle.fw_parser.specs.Opening.{Looked, not_looked_for, looked, Sets, ItemAnswers, items_of, items_p, metadata_item, sets_item, report_of, sets_of, Opened, refused, opened, verdict, after_header, open_p}
use Rattle.cut_short.specs.Shown.{name_of, EndedReport, Kept}
use Rattle.cut_short.proofs.Laws.Cuts.{EndedLook, EndedName, EndedSets, NamesCut, EndedRow, RowCut, row_cut}

-- ---- names by their ROM row

name_ended : (ts : List Text) → EndedName ts → (i : ℕ) × (i < length ts) × ((name_of ts i).number ≡ 2)
name_ended [] e = absurd e
name_ended (t ∷ ts) (inl e) = (zero, suc-le-suc_iff.1 (omega arith), e)
name_ended (t ∷ ts) (inr e) = let r = name_ended ts e in (suc r.0, suc-le-suc_iff.1 r.1, r.2)

name_kept : (ts ws : List Text) → NamesCut ts ws → (i : ℕ) → i < length ts
    → ((name_of ts i).number ≡ 2) ⊎ ((i < length ws) × (name_of ts i ≡ name_of ws i))
name_kept [] ws c i l = absurd (not-suc-le-zero l)
name_kept (t ∷ ts) [] c i l = absurd c
name_kept (t ∷ ts) (w ∷ ws) c zero l = ⊎_elim inl (λ (e : t ≡ w). inr (suc-le-suc_iff.1 (omega arith), e)) c.0
name_kept (t ∷ ts) (w ∷ ws) c (suc i) l =
    ⊎_elim inl (λ (r : (i < length ws) × (name_of ts i ≡ name_of ws i)). inr (suc-le-suc_iff.1 r.0, r.1)) (name_kept ts ws c.1 i (le_of_suc-le-suc l))

-- ---- items of the report

metadata_ended_is : (l : Looked) → EndedLook l → metadata_item l ≡ MetadataItem.Looked 2
metadata_ended_is not_looked_for e = absurd e
metadata_ended_is (looked m) e = ap MetadataItem.Looked e

sets_number_is : (n : ℕ) (w : Part (List RomSet)) → Ended w → (sets_item n w).number ≡ 2
sets_number_is n (stop m passed) e = e
sets_number_is n (found ss) e = absurd e

sets_served : (n : ℕ) (w : Part (List RomSet)) → Ended w → (sets_item n w).served ≡ 0
sets_served n (stop m passed) e = refl
sets_served n (found ss) e = absurd e

-- one name for each ROM that the rows list
abbrev Named : ItemAnswers → Type 0
Named t = length (items_of t).names ≡ length (roms_of (sets_of (items_of t).sets.walk))

module _ (h : SdrrInfoHeader) (t w : ItemAnswers) (named : Named t) where
  report_ended : EndedRow t → EndedReport (report_of h (items_of t)) (sets_of (items_of t).sets.walk) (items_of t).names
  unfolding report_of
  report_ended (inl e) = inl e
  report_ended (inr (inl e)) = inr (inl e)
  report_ended (inr (inr (inl e))) = inr (inr (inl e))
  report_ended (inr (inr (inr (inl e)))) = inr (inr (inr (inl (metadata_ended_is (items_of t).metadata e))))
  report_ended (inr (inr (inr (inr (inl e))))) = inr (inr (inr (inr (inl (sets_number_is (items_of t).sets.count (items_of t).sets.walk e)))))
  report_ended (inr (inr (inr (inr (inr (inl e)))))) = inr (inr (inr (inr (inr (inl (rw (← named) (name_ended (items_of t).names e)))))))
  report_ended (inr (inr (inr (inr (inr (inr e)))))) = inr (inr (inr (inr (inr (inr e)))))

  kept : RowCut t w
      → Kept (report_of h (items_of t)) (sets_of (items_of t).sets.walk) (items_of t).names (report_of h (items_of w)) (sets_of (items_of w).sets.walk) (items_of w).names
  unfolding report_of
  kept c =
      record {
        header = refl;
        build_date = c.0;
        revision = c.1.0;
        extra_info = c.1.1.0;
        metadata = ⊎_elim (λ (e : EndedLook (items_of t).metadata). inl (metadata_ended_is (items_of t).metadata e)) (λ (e : (items_of t).metadata ≡ (items_of w).metadata). inr (ap metadata_item e)) c.1.1.1.0;
        sets =
            ⊎_elim (λ (e : EndedSets (items_of t).sets). inl (sets_number_is (items_of t).sets.count (items_of t).sets.walk e, sets_served (items_of t).sets.count (items_of t).sets.walk e))
            (λ (e : (items_of t).sets ≡ (items_of w).sets).
            inr (
              ap (λ (s : Sets). sets_item s.count s.walk) e,
              ap (λ (s : Sets). set_rows_of (sets_of s.walk)) e,
              ap (λ (s : Sets). map rom_front (roms_of (sets_of s.walk))) e,
            ))
            c.1.1.1.1.0;
        each_name = rw (← named) (λ i l. (l, name_kept (items_of t).names (items_of w).names c.1.1.1.1.1.0 i l));
        pins = c.1.1.1.1.1.1;
      }

-- ---- 44 and 45

-- refused or an item ended, given one name for each ROM row
abbrev pub EndedAny : Opened → Type 0
EndedAny (refused n) = Unit {0}
EndedAny (opened r ss names) = length names ≡ length (roms_of ss) → EndedReport r ss names

-- as the two runs of the reads show it, before it is known that the whole opens
abbrev pub Beside : Opened → Opened → Type 0
Beside (refused n) w = (n ≡ 2) ⊎ (refused n ≡ w)
Beside (opened r ss names) (refused m) = Unit {0}
Beside (opened r ss names) (opened r' ss' names') = length names ≡ length (roms_of ss) → Kept r ss names r' ss' names'

module _ (lent_sets lent_roms : ℕ) where
  -- an ended walk lists no set, so no row is short
  room_ended : (w : Part (List RomSet)) → Ended w → (short_sets (sets_of w) lent_sets ≡ false) × (short_roms (sets_of w) lent_roms ≡ false)
  unfolding roms_of
  room_ended (stop n passed) e = (le-ltb lent_sets 0 (omega arith), le-ltb lent_roms 0 (omega arith))
  room_ended (found ss) e = absurd e

  verdict_ended : (h : SdrrInfoHeader) (t : ItemAnswers) → EndedRow t → EndedAny (verdict lent_sets lent_roms h (items_of t))
  unfolding verdict
  verdict_ended h t e = go (short_sets (sets_of (items_of t).sets.walk) lent_sets) (short_roms (sets_of (items_of t).sets.walk) lent_roms)
    where
      go : (a b : Bool)
          → EndedAny (pick a (refused 44) (pick b (refused 45) (opened (report_of h (items_of t)) (sets_of (items_of t).sets.walk) (items_of t).names)))
      go true b = tt
      go false true = tt
      go false false = λ named. report_ended h t t named e

  verdict_beside : (h : SdrrInfoHeader) (t w : ItemAnswers) → RowCut t w → Beside (verdict lent_sets lent_roms h (items_of t)) (verdict lent_sets lent_roms h (items_of w))
  unfolding verdict
  verdict_beside h t w c =
      ⊎_elim
      (λ (e : EndedSets (items_of t).sets).
      let r = room_ended (items_of t).sets.walk e in
      rw (r.0, r.1) (left (short_sets (sets_of (items_of w).sets.walk) lent_sets) (short_roms (sets_of (items_of w).sets.walk) lent_roms)))
      (λ (e : (items_of t).sets ≡ (items_of w).sets).
      let a : short_sets (sets_of (items_of t).sets.walk) lent_sets ≡ short_sets (sets_of (items_of w).sets.walk) lent_sets = ap (λ (s : Sets). short_sets (sets_of s.walk) lent_sets) e in
      let b : short_roms (sets_of (items_of t).sets.walk) lent_roms ≡ short_roms (sets_of (items_of w).sets.walk) lent_roms = ap (λ (s : Sets). short_roms (sets_of s.walk) lent_roms) e in
      rw (a, b) (same (short_sets (sets_of (items_of w).sets.walk) lent_sets) (short_roms (sets_of (items_of w).sets.walk) lent_roms)))
      c.1.1.1.1.0
    where
      this : Opened
      this = opened (report_of h (items_of t)) (sets_of (items_of t).sets.walk) (items_of t).names

      whole : Opened
      whole = opened (report_of h (items_of w)) (sets_of (items_of w).sets.walk) (items_of w).names

      left : (a b : Bool) → Beside this (pick a (refused 44) (pick b (refused 45) whole))
      left true b = tt
      left false true = tt
      left false false = λ named. kept h t w named c

      same : (a b : Bool) → Beside (pick a (refused 44) (pick b (refused 45) this)) (pick a (refused 44) (pick b (refused 45) whole))
      same true b = inr refl
      same false true = inr refl
      same false false = λ named. kept h t w named c

-- ---- through the header

module _ (s : Settings) (lent_sets lent_roms : ℕ) where
  abbrev rest_p : HeaderAnswer → Prog Opened
  rest_p a =
      map_p (λ t. verdict lent_sets lent_roms a.header (items_of t))
      (items_p (base_after s.flash_base s.cs0_base a.header.fields.stm_line) a.header)

  rest_cut : (a : HeaderAnswer) → Cut EndedAny Beside (rest_p a) (rest_p a)
  rest_cut a =
      cut_map (λ t. verdict lent_sets lent_roms a.header (items_of t)) (λ t. verdict lent_sets lent_roms a.header (items_of t)) (row_cut _ a.header)
      (verdict_ended lent_sets lent_roms a.header) (verdict_beside lent_sets lent_roms a.header)

  after_same : (a : HeaderAnswer) → Cut EndedAny Beside (after_header s lent_sets lent_roms a) (after_header s lent_sets lent_roms a)
  after_same a = go (eqb a.number 0)
    where
      go : (b : Bool) → Cut EndedAny Beside (pick b (rest_p a) (done (refused a.number))) (pick b (rest_p a) (done (refused a.number)))
      go true = rest_cut a
      go false = cut_done (inr refl)

  pub after_ended : (a : HeaderAnswer) → a.number ≡ 2 → (x : List ℕ) → run (after_header s lent_sets lent_roms a) x ≡ refused 2
  unfolding run
  after_ended a e x = rw e refl

  after_cut : (a b : HeaderAnswer) → OrEnded (λ (h : HeaderAnswer). h.number ≡ 2) a b → Cut EndedAny Beside (after_header s lent_sets lent_roms a) (after_header s lent_sets lent_roms b)
  after_cut a b (inl e) =
      record {
        values = λ x k. subst (λ (o : Opened). Beside o (run (after_header s lent_sets lent_roms b) x)) (sym (after_ended a e (take k x))) (inl refl);
        takes = λ x k. inl (subst EndedAny (sym (after_ended a e (take k x))) tt);
      }
  after_cut a b (inr e) = rw e (after_same b)

  pub open_cut : Cut EndedAny Beside (open_p s lent_sets lent_roms) (open_p s lent_sets lent_roms)
  unfolding open_p
  open_cut =
      cut_bind (cut_honest (header_honest s.flash_base s.info_offset)) after_cut
      (λ a e x. subst EndedAny (sym (after_ended a e x)) tt)
