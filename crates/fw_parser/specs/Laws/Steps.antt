-- The opening, outcome by outcome, in the terms of the code: beyond the window; the header refused; the rows too short; opened.
-- Assumes nothing.
use Rattle.std.specs.Prelude.{ℕ, ◌≤◌, ◌≡◌, Bool, List}
use Rattle.std.proofs.Common.{arith, subst, ◌∙◌}
use Rattle.std.proofs.Math.Path.{refl, sym, ap}
use Rattle.std.proofs.Math.Bool.{true, false}
use Rattle.std.proofs.Math.ListN.{length}
use borrow.Author.Tests.{le-ltb, ne_eqb, eq-eqb}
use Rattle.base.specs.Laws.{clash}
use Rattle.base.specs.Choice.{pick}
use Rattle.window.specs.Window.{base_after, beyond_window}
use Rattle.prog.specs.Prog.{run}
use Rattle.prog.proofs.Laws.Run.{run_done, run_bind, run_map, run_also}
use Rattle.text.specs.declared.Text.{Text}
use Rattle.text.specs.Text.{text_p}
use Rattle.header.specs.declared.SdrrInfoHeader.{SdrrInfoHeader}
use Rattle.header.specs.Header.{HeaderAnswer, header_p}
use Rattle.extra_info.specs.ExtraInfo.{extra_info_p}
use Rattle.pins.specs.Pins.{pins_p}
use Rattle.walk.specs.Walk.{RomSet, Part, stop, found, roms_of}
use Rattle.walk.specs.Names.{walk_names_p}
use Rattle.walk.specs.Rows.{set_rows_of, set_rows_after, rom_rows_of, short_sets, short_roms, overwritten}
use Rattle.walk.proofs.Laws.Numbers.{Numbered}
use Rattle.rom_rows.specs.Reply as rows
use Rattle.sets_source.specs.Code.{source_of}
use Rattle.records.specs.Code.{RecordsShown, records_of}
use Rattle.sets_item.specs.Code.{walk_of, item_of}
use Rattle.sets_item.specs.Laws.{Walks, left_numbered, sets_run, item_refused, item_accepted}
use Rattle.window.specs.declared.Settings.{Settings}
use Rattle.sdrr_info.specs.declared.SdrrInfo.{SdrrInfo}
use Rattle.fw_parser.specs.declared.Opening.{Opening}
use Rattle.fw_parser.specs.Opening.{Looked, look_p, set_count, counted, Items, items_of, items_p, sets_item, report_of, sets_of, Opened, refused, opened, verdict, after_header, open_p, opening, set_rows_left, rom_rows_left}
use Rattle.fw_parser.specs.Reply.{no_report, refused_opening, opening_reply}
use Rattle.fw_parser.specs.Code.{is_short, report_with}

-- ---- what the walk's number decides

not_short : (k : ℕ) → k ≤ 43 → is_short k ≡ false
not_short k h = rw (ne_eqb k 44 (λ z. omega arith), ne_eqb k 45 (λ z. omega arith)) refl

both : {A : Type 0} → true ≡ false → A
both e = clash (cc)

-- an opening by the walk w, which goes on to o: what the walk's number v says of it and of the rows that the walk leaves
module _ (o : Part (List RomSet) → Opened) (names : List Text) (ls lr : List ℕ) where
  abbrev decided : Part (List RomSet) → Opened
  decided w = pick (short_sets (sets_of w) (length ls)) (refused 44) (pick (short_roms (sets_of w) (length lr)) (refused 45) (o w))

  record Short (v : ℕ) (w : Part (List RomSet)) : Type 0 where
    refuses : decided w ≡ refused v
    sets : rows.walk_set_rows w (length lr) ls ≡ ls
    roms : rows.walk_rom_rows w names (length ls) lr ≡ lr

  record Long (v : ℕ) (w : Part (List RomSet)) : Type 0 where
    opens : decided w ≡ o w
    item : (count : ℕ) → sets_item count w ≡ item_of v count
    sets : rows.walk_set_rows w (length lr) ls ≡ overwritten (set_rows_of (sets_of w)) ls
    roms : rows.walk_rom_rows w names (length ls) lr ≡ overwritten (rom_rows_of (roms_of (sets_of w)) names) lr

  module _ (v : ℕ) where
    short : (w : Part (List RomSet)) → Numbered w → v ≡ (rows.walk_reply w (length ls) (length lr)).number → is_short v ≡ true → Short v w
    unfolding rows.walk_reply rows.walk_set_rows rows.walk_rom_rows
    short (stop k passed) t e s = both (sym s ∙ ap is_short e ∙ not_short k t.1)
    short (found ss) t e s = go (short_sets ss (length ls)) (short_roms ss (length lr)) refl refl e
      where
        go : (c d : Bool) → short_sets ss (length ls) ≡ c → short_roms ss (length lr) ≡ d
            → v ≡ (pick c (rows.refused_walk 44) (pick d (rows.refused_walk 45) (record { number = 0; rom_count = length (roms_of ss) }))).number → Short v (found ss)
        go true d f g h = record { refuses = rw (f, h) refl; sets = rw f; roms = rw f }
        go false true f g h = record { refuses = rw (f, g, h) refl; sets = rw (f, g); roms = rw (f, g) }
        go false false f g h = both (sym s ∙ ap is_short h)

    long : (w : Part (List RomSet)) → Numbered w → v ≡ (rows.walk_reply w (length ls) (length lr)).number → is_short v ≡ false → Long v w
    unfolding rows.walk_reply rows.walk_set_rows rows.walk_rom_rows set_rows_after roms_of rom_rows_of
    long (stop k passed) t e s =
        record {
          opens = rw (le-ltb (length ls) 0 (omega arith), le-ltb (length lr) 0 (omega arith));
          item = λ count. rw e (item_refused count k passed t.0);
          sets = refl;
          roms = refl;
        }
    long (found ss) t e s = go (short_sets ss (length ls)) (short_roms ss (length lr)) refl refl e
      where
        go : (c d : Bool) → short_sets ss (length ls) ≡ c → short_roms ss (length lr) ≡ d
            → v ≡ (pick c (rows.refused_walk 44) (pick d (rows.refused_walk 45) (record { number = 0; rom_count = length (roms_of ss) }))).number → Long v (found ss)
        go true d f g h = both (sym (ap is_short h) ∙ s)
        go false true f g h = both (sym (ap is_short h) ∙ s)
        go false false f g h = record { opens = rw (f, g); item = λ count. rw h (item_accepted count ss); sets = rw (f, g); roms = rw (f, g) }

-- ---- the items behind an accepted header

module _ (x : List ℕ) (base : ℕ) (h : SdrrInfoHeader) where
  abbrev look : Looked
  look = run (look_p base h) x

  -- the walk, as the records leave it
  abbrev walk : Part (List RomSet)
  walk = walk_of base h.fields (source_of h look) x

  -- the items, with the walk w
  items_by : Part (List RomSet) → Items
  items_by w =
      record {
        build_date = run (text_p base h.build_date_ptr) x;
        hw_rev = run (text_p base h.hw_rev_ptr) x;
        extra_info = run (extra_info_p base h.extra_ptr h.fields.version) x;
        metadata = look;
        sets = counted (set_count h look) w;
        names = run (walk_names_p base w) x;
        pins = run (pins_p base h.pins_ptr) x;
      }

  row_items : items_of (run (items_p base h) x) ≡ items_by walk
  unfolding items_p items_by
  row_items = simp (run_also, sets_run)

  report_by : (v : ℕ) (w : Part (List RomSet)) → sets_item (set_count h look) w ≡ item_of v (set_count h look) → report_of h (items_by w) ≡ report_with h.fields (records_of base h x) v
  unfolding items_by report_of report_with records_of
  report_by v w e = rw (← e) refl

-- ---- the opening

-- the reply and both rows are the opening's
pub record Leaves (s : Settings) (x ls lr : List ℕ) (r : Opening) (t u : List ℕ) : Type 0 where
  pub reply : r ≡ opening_reply (opening s (length ls) (length lr) x)
  pub set_rows : t ≡ set_rows_left (opening s (length ls) (length lr) x) ls
  pub rom_rows : u ≡ rom_rows_left (opening s (length ls) (length lr) x) lr

-- with the report that a refusal has
pub refused_by : (n : ℕ) (i : SdrrInfo) → i ≡ no_report → ◌≡◌ {A = Opening} (record { number = n; info = i }) (refused_opening n)
refused_by n i e = rw e refl

pub opened_by : (i j : SdrrInfo) → i ≡ j → ◌≡◌ {A = Opening} (record { number = 0; info = i }) (record { number = 0; info = j })
opened_by i j e = rw e refl

module _ (s : Settings) (x ls lr : List ℕ) where
  -- where the opening is o
  leaves : (o : Opened) → opening s (length ls) (length lr) x ≡ o → (r : Opening) (t u : List ℕ) → r ≡ opening_reply o → t ≡ set_rows_left o ls → u ≡ rom_rows_left o lr → Leaves s x ls lr r t u
  leaves o e r t u f g k = record { reply = rw e f; set_rows = rw e g; rom_rows = rw e k }

  left_alone : (n : ℕ) → opening s (length ls) (length lr) x ≡ refused n → Leaves s x ls lr (refused_opening n) ls lr
  unfolding opening_reply
  left_alone n e = leaves (refused n) e (refused_opening n) ls lr refl refl refl

  pub left_beyond : beyond_window s.flash_base s.cs0_base x ≡ true → Leaves s x ls lr (refused_opening 1) ls lr
  unfolding opening
  left_beyond e = left_alone 1 (rw e)

  module _ (inside : beyond_window s.flash_base s.cs0_base x ≡ false) (a : HeaderAnswer) (ea : a ≡ run (header_p s.flash_base s.info_offset) x) where
    behind : opening s (length ls) (length lr) x ≡ run (after_header s (length ls) (length lr) a) x
    unfolding opening open_p
    behind = rw inside (run_bind x (header_p s.flash_base s.info_offset) (after_header s (length ls) (length lr)) ∙ ap (λ (b : HeaderAnswer). run (after_header s (length ls) (length lr) b) x) (sym ea))

    pub left_header : (a.number ≡ 0 → ⊥) → Leaves s x ls lr (refused_opening a.number) ls lr
    left_header h = left_alone a.number (behind ∙ rw (ne_eqb a.number 0 h) (run_done x (refused a.number)))

    module _ (z : a.number ≡ 0) (base : ℕ) (eb : base ≡ base_after s.flash_base s.cs0_base a.header.fields.stm_line) where
      by_items : opening s (length ls) (length lr) x ≡ verdict (length ls) (length lr) a.header (items_by x base a.header (walk x base a.header))
      by_items =
          behind
          ∙ rw (eq-eqb a.number 0 z, ← eb)
          (run_map x (λ t. verdict (length ls) (length lr) a.header (items_of t)) (items_p base a.header) ∙ ap (verdict (length ls) (length lr) a.header) (row_items x base a.header))

      module _ (c : RecordsShown) (ec : c ≡ records_of base a.header x) (v : ℕ) (t u : List ℕ) where
        abbrev w : Part (List RomSet)
        w = walk x base a.header

        abbrev names : List Text
        names = run (walk_names_p base w) x

        is_walk : walk_of base a.header.fields c.sets x ≡ w
        unfolding records_of
        is_walk = ap (λ (r : RecordsShown). walk_of base a.header.fields r.sets x) ec

        module _ (d : Walks x base a.header.fields c.sets ls lr v t u) where
          number : v ≡ (rows.walk_reply w (length ls) (length lr)).number
          number = subst (λ (p : Part (List RomSet)). v ≡ (rows.walk_reply p (length ls) (length lr)).number) is_walk d.reply

          sets_left : t ≡ rows.walk_set_rows w (length lr) ls
          sets_left = subst (λ (p : Part (List RomSet)). t ≡ rows.walk_set_rows p (length lr) ls) is_walk d.set_rows

          roms_left : u ≡ rows.walk_rom_rows w names (length ls) lr
          roms_left = subst (λ (p : Part (List RomSet)). u ≡ rows.walk_rom_rows p (run (walk_names_p base p) x) (length ls) lr) is_walk d.rom_rows

          abbrev onward : Part (List RomSet) → Opened
          onward p = opened (report_of a.header (items_by x base a.header p)) (sets_of p) names

          by_walk : opening s (length ls) (length lr) x ≡ decided onward names ls lr w
          unfolding verdict items_by
          by_walk = by_items

          numbered : Numbered w
          numbered = left_numbered x base a.header.fields (source_of a.header (look x base a.header))

          pub left_short : is_short v ≡ true → Leaves s x ls lr (refused_opening v) t u
          unfolding opening_reply
          left_short e =
              let f = short onward names ls lr v w numbered number e in
              leaves (refused v) (by_walk ∙ f.refuses) (refused_opening v) t u refl (sets_left ∙ f.sets) (roms_left ∙ f.roms)

          pub left_open : is_short v ≡ false → Leaves s x ls lr (record { number = 0; info = report_with a.header.fields c v }) t u
          unfolding opening_reply
          left_open e =
              let f = long onward names ls lr v w numbered number e in
              let r : report_with a.header.fields c v ≡ report_of a.header (items_by x base a.header w) =
              ap (λ (q : RecordsShown). report_with a.header.fields q v) ec ∙ sym (report_by x base a.header v w (f.item (set_count a.header (look x base a.header)))) in
              leaves (onward w) (by_walk ∙ f.opens) _ t u (ap (λ (i : SdrrInfo). record { number = 0; info = i }) r) (sets_left ∙ f.sets) (roms_left ∙ f.roms)
