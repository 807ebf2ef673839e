-- Each item has a program of its own: the header's reads, then those that the item needs. The opening's item is its answer.
-- Assumes nothing.
use Rattle.std.specs.Prelude.{ℕ, ◌≡◌, Bool, List, length, get_or}
use Rattle.std.proofs.Math.Path.{refl, sym, ap}
use Rattle.std.proofs.Common.{◌∙◌}
use Rattle.std.proofs.Math.Bool.{true, false}
use Rattle.std.proofs.Math.Dec.{eqb}
use Rattle.base.specs.Laws.{clash}
use Rattle.base.specs.Choice.{pick}
use Rattle.window.specs.Window.{base_after}
use Rattle.prog.specs.Prog.{Prog, done, ◌>>=◌, map_p, run}
use Rattle.prog.proofs.Laws.Run.{run_bind, run_map, run_also}
use Rattle.text.specs.declared.Text.{Text}
use Rattle.text.specs.Text.{refused_text, text_p}
use Rattle.header.specs.declared.SdrrInfoHeader.{SdrrInfoHeader}
use Rattle.header.specs.Header.{HeaderAnswer, header_p}
use Rattle.extra_info.specs.declared.ExtraInfoItem.{ExtraInfoItem}
use Rattle.extra_info.specs.ExtraInfo.{extra_info_p}
use Rattle.pins.specs.declared.PinsItem.{PinsItem}
use Rattle.pins.specs.Pins.{pins_p}
use Rattle.walk.specs.Walk.{RomSet, Part, stop, found, roms_of}
use Rattle.walk.specs.Rows.{short_sets, short_roms}
use Rattle.walk.specs.Names.{walk_names_p}
use Rattle.walk.proofs.Laws.Ended.{names_each, no_name_shown}
use Rattle.walk.proofs.Laws.NameWords.{NameRead, walk_names_read}
use Rattle.window.specs.declared.Settings.{Settings}
use Rattle.sdrr_info.specs.declared.SdrrInfo.{SdrrInfo}
use Rattle.fw_parser.specs.Opening.{Looked, look_p, Sets, sets_item_p, Items, ItemAnswers, items_of, items_p, metadata_item, sets_item, report_of, sets_of, refused, opened, verdict, after_header, open_p}

-- ---- the programs

-- what an item's program answers: nothing where the header is refused
pub data Behind (A : Type 0) : Type 0 where
  no_header : Behind A
  behind : A → Behind A

-- the header's reads, then the item's own with the base in force
unfoldable pub item_p : {A : Type 0} → Settings → (ℕ → SdrrInfoHeader → Prog A) → Prog (Behind A)
item_p s f =
    header_p s.flash_base s.info_offset >>= λ a.
    pick (eqb a.number 0)
    (map_p behind (f (base_after s.flash_base s.cs0_base a.header.fields.stm_line) a.header)) (done no_header)

abbrev pub build_date_p : ℕ → SdrrInfoHeader → Prog Text
build_date_p base h = text_p base h.build_date_ptr

abbrev pub hw_rev_p : ℕ → SdrrInfoHeader → Prog Text
hw_rev_p base h = text_p base h.hw_rev_ptr

abbrev pub extra_p : ℕ → SdrrInfoHeader → Prog ExtraInfoItem
extra_p base h = extra_info_p base h.extra_ptr h.fields.version

-- the sets item goes by metadata's answer
abbrev pub sets_behind_p : ℕ → SdrrInfoHeader → Prog Sets
sets_behind_p base h = look_p base h >>= λ l. sets_item_p base h l

-- the names go by the walk
abbrev pub names_behind_p : ℕ → SdrrInfoHeader → Prog (List Text)
names_behind_p base h = sets_behind_p base h >>= λ s. walk_names_p base s.walk

abbrev pub pins_item_p : ℕ → SdrrInfoHeader → Prog PinsItem
pins_item_p base h = pins_p base h.pins_ptr

-- ---- the laws

-- a row's parts are its items' answers
record RowRun (base : ℕ) (h : SdrrInfoHeader) (x : List ℕ) (t : ItemAnswers) : Type 0 where
  date : run (build_date_p base h) x ≡ t.0
  rev : run (hw_rev_p base h) x ≡ t.1.0
  extra : run (extra_p base h) x ≡ t.1.1.0
  look : run (look_p base h) x ≡ t.1.1.1.0
  sets : run (sets_behind_p base h) x ≡ t.1.1.1.1.0
  names : run (names_behind_p base h) x ≡ t.1.1.1.1.1.0
  pins : run (pins_item_p base h) x ≡ t.1.1.1.1.1.1

module _ (base : ℕ) (h : SdrrInfoHeader) (x : List ℕ) where
  look : Looked
  look = run (look_p base h) x

  sets : Sets
  sets = run (sets_item_p base h look) x

  tuple : ItemAnswers
  tuple =
      (run (build_date_p base h) x, (run (hw_rev_p base h) x, (run (extra_p base h) x, (look, (sets, (run (walk_names_p base sets.walk) x, run (pins_item_p base h) x))))))

  row_run : run (items_p base h) x ≡ tuple
  unfolding items_p tuple look sets
  row_run = simp (run_also)

  row_parts : RowRun base h x (run (items_p base h) x)
  unfolding tuple look sets
  row_parts =
      rw row_run
      (record {
        date = refl;
        rev = refl;
        extra = refl;
        look = refl;
        sets = run_bind x (look_p base h) (λ l. sets_item_p base h l);
        names = run_bind x (sets_behind_p base h) (λ s. walk_names_p base s.walk) ∙ ap (λ (s : Sets). run (walk_names_p base s.walk) x) (run_bind x (look_p base h) (λ l. sets_item_p base h l));
        pins = refl;
      })

-- what the verdict lets through
let_through : (n m : ℕ) (h : SdrrInfoHeader) (i : Items) (r : SdrrInfo) (ss : List RomSet) (names : List Text) → verdict n m h i ≡ opened r ss names
    → (report_of h i ≡ r) × (sets_of i.sets.walk ≡ ss) × (i.names ≡ names)
unfolding verdict
let_through n m h i r ss names e = go (short_sets (sets_of i.sets.walk) n) (short_roms (sets_of i.sets.walk) m) e
  where
    go : (a b : Bool) → pick a (refused 44) (pick b (refused 45) (opened (report_of h i) (sets_of i.sets.walk) i.names)) ≡ opened r ss names
        → (report_of h i ≡ r) × (sets_of i.sets.walk ≡ ss) × (i.names ≡ names)
    go true b f = clash (cc)
    go false true f = clash (cc)
    go false false f = ((cc), (cc), (cc))

-- the items of an opened image
pub record ItemsOf (s : Settings) (x : List ℕ) (r : SdrrInfo) (ss : List RomSet) (names : List Text) : Type 0 where
  pub build_date : run (item_p s build_date_p) x ≡ behind r.build_date
  pub revision : run (item_p s hw_rev_p) x ≡ behind r.hw_rev
  pub extra_info : run (item_p s extra_p) x ≡ behind r.extra_info
  pub metadata : run (item_p s (λ base h. map_p metadata_item (look_p base h))) x ≡ behind r.metadata
  pub sets : run (item_p s (λ base h. map_p (λ t. sets_item t.count t.walk) (sets_behind_p base h))) x ≡ behind r.rom_sets
  pub listed : run (item_p s (λ base h. map_p (λ t. sets_of t.walk) (sets_behind_p base h))) x ≡ behind ss
  pub names_read : run (item_p s names_behind_p) x ≡ behind names
  pub pins : run (item_p s pins_item_p) x ≡ behind r.pins

walk_names_each : (base : ℕ) (w : Part (List RomSet)) (x : List ℕ) → length (run (walk_names_p base w) x) ≡ length (roms_of (sets_of w))
unfolding walk_names_p roms_of
walk_names_each base (stop n passed) x = ap length (no_name_shown base n passed x)
walk_names_each base (found ss) x = names_each base (roms_of ss) x

module _ (s : Settings) (x : List ℕ) where
  pub header : HeaderAnswer
  header = run (header_p s.flash_base s.info_offset) x

  pub base : ℕ
  base = base_after s.flash_base s.cs0_base header.header.fields.stm_line

  -- an item behind an accepted header
  item_run : {A : Type 0} (f : ℕ → SdrrInfoHeader → Prog A) → eqb header.number 0 ≡ true → run (item_p s f) x ≡ behind (run (f base header.header) x)
  unfolding item_p header base
  item_run f e =
      run_bind x (header_p s.flash_base s.info_offset) _ ∙ rw e (run_map x behind (f base header.header))

  open_run : (n m : ℕ) → run (open_p s n m) x ≡ run (after_header s n m header) x
  unfolding open_p header
  open_run n m = run_bind x (header_p s.flash_base s.info_offset) (after_header s n m)

  accepted_header : (n m : ℕ) (r : SdrrInfo) (ss : List RomSet) (names : List Text) → run (after_header s n m header) x ≡ opened r ss names
      → (eqb header.number 0 ≡ true) × (verdict n m header.header (items_of (run (items_p base header.header) x)) ≡ opened r ss names)
  unfolding base run
  accepted_header n m r ss names e = go (eqb header.number 0) refl e
    where
      go : (b : Bool) → eqb header.number 0 ≡ b
          → run (pick b (map_p (λ t. verdict n m header.header (items_of t)) (items_p base header.header)) (done (refused header.number))) x ≡ opened r ss names
          → (eqb header.number 0 ≡ true) × (verdict n m header.header (items_of (run (items_p base header.header) x)) ≡ opened r ss names)
      go true h f = (h, sym (run_map x (λ t. verdict n m header.header (items_of t)) (items_p base header.header)) ∙ f)
      go false h f = clash (cc)

  pub items_of_is : (n m : ℕ) (r : SdrrInfo) (ss : List RomSet) (names : List Text) → run (open_p s n m) x ≡ opened r ss names → ItemsOf s x r ss names
  unfolding report_of
  items_of_is n m r ss names e =
      let h = header.header in
      let a = accepted_header n m r ss names (sym (open_run n m) ∙ e) in
      let t = run (items_p base h) x in
      let v = let_through n m h (items_of t) r ss names a.1 in
      let p = row_parts base h x in
      record {
        build_date = item_run build_date_p a.0 ∙ ap behind (p.date ∙ ap (λ (i : SdrrInfo). i.build_date) v.0);
        revision = item_run hw_rev_p a.0 ∙ ap behind (p.rev ∙ ap (λ (i : SdrrInfo). i.hw_rev) v.0);
        extra_info = item_run extra_p a.0 ∙ ap behind (p.extra ∙ ap (λ (i : SdrrInfo). i.extra_info) v.0);
        metadata =
            item_run (λ b k. map_p metadata_item (look_p b k)) a.0
            ∙ ap behind (run_map x metadata_item (look_p base h) ∙ ap metadata_item p.look ∙ ap (λ (i : SdrrInfo). i.metadata) v.0);
        sets =
            item_run (λ b k. map_p (λ t. sets_item t.count t.walk) (sets_behind_p b k)) a.0
            ∙ ap behind
            (run_map x (λ t. sets_item t.count t.walk) (sets_behind_p base h) ∙ ap (λ (u : Sets). sets_item u.count u.walk) p.sets ∙ ap (λ (i : SdrrInfo). i.rom_sets) v.0);
        listed =
            item_run (λ b k. map_p (λ t. sets_of t.walk) (sets_behind_p b k)) a.0
            ∙ ap behind (run_map x (λ t. sets_of t.walk) (sets_behind_p base h) ∙ ap (λ (u : Sets). sets_of u.walk) p.sets ∙ v.1);
        names_read = item_run names_behind_p a.0 ∙ ap behind (p.names ∙ v.2);
        pins = item_run pins_item_p a.0 ∙ ap behind (p.pins ∙ ap (λ (i : SdrrInfo). i.pins) v.0);
      }

  -- the sets that an opened image was walked for
  pub opened_sets : (n m : ℕ) (r : SdrrInfo) (ss : List RomSet) (names : List Text) → run (open_p s n m) x ≡ opened r ss names
      → (t : Sets) × (run (sets_item_p base header.header (run (look_p base header.header) x)) x ≡ t) × (sets_item t.count t.walk ≡ r.rom_sets) × (sets_of t.walk ≡ ss)
  unfolding report_of
  opened_sets n m r ss names e =
      let h = header.header in
      let a = accepted_header n m r ss names (sym (open_run n m) ∙ e) in
      let v = let_through n m h (items_of (run (items_p base h) x)) r ss names a.1 in
      let p = row_parts base h x in
      ((items_of (run (items_p base h) x)).sets, sym (run_bind x (look_p base h) (λ l. sets_item_p base h l)) ∙ p.sets, ap (λ (i : SdrrInfo). i.rom_sets) v.0, v.1)

  -- the names are those of the walk
  walked : (n m : ℕ) (r : SdrrInfo) (ss : List RomSet) (names : List Text) → run (open_p s n m) x ≡ opened r ss names
      → (w : Part (List RomSet)) × (run (walk_names_p base w) x ≡ names) × (sets_of w ≡ ss)
  walked n m r ss names e =
      let h = header.header in
      let a = accepted_header n m r ss names (sym (open_run n m) ∙ e) in
      let t = items_of (run (items_p base h) x) in
      let v = let_through n m h t r ss names a.1 in
      let p = row_parts base h x in
      let read : t.names ≡ run (walk_names_p base t.sets.walk) x =
      sym p.names ∙ run_bind x (sets_behind_p base h) (λ s. walk_names_p base s.walk) ∙ ap (λ (u : Sets). run (walk_names_p base u.walk) x) p.sets in
      (t.sets.walk, sym read ∙ v.2, v.1)

  -- one name for each ROM that the rows list
  pub opened_names : (n m : ℕ) (r : SdrrInfo) (ss : List RomSet) (names : List Text) → run (open_p s n m) x ≡ opened r ss names → length names ≡ length (roms_of ss)
  opened_names n m r ss names e =
      let w = walked n m r ss names e in
      ap length (sym w.1) ∙ walk_names_each base w.0 x ∙ ap (λ (l : List RomSet). length (roms_of l)) w.2

  -- the report's two strings, and each name, are what a string of the image answers
  pub opened_strings : (n m : ℕ) (r : SdrrInfo) (ss : List RomSet) (names : List Text) → run (open_p s n m) x ≡ opened r ss names
      → (run (text_p base header.header.build_date_ptr) x ≡ r.build_date) × (run (text_p base header.header.hw_rev_ptr) x ≡ r.hw_rev)
  unfolding report_of
  opened_strings n m r ss names e =
      let h = header.header in
      let a = accepted_header n m r ss names (sym (open_run n m) ∙ e) in
      let v = let_through n m h (items_of (run (items_p base h) x)) r ss names a.1 in
      let p = row_parts base h x in
      (p.date ∙ ap (λ (i : SdrrInfo). i.build_date) v.0, p.rev ∙ ap (λ (i : SdrrInfo). i.hw_rev) v.0)

  pub opened_names_read : (n m : ℕ) (r : SdrrInfo) (ss : List RomSet) (names : List Text) → run (open_p s n m) x ≡ opened r ss names
      → (i : ℕ) → NameRead x (get_or names i (refused_text 1))
  opened_names_read n m r ss names e i = let w = walked n m r ss names e in rw (← w.1) (walk_names_read x base w.0 i)
