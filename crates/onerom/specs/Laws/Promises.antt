-- Demand 3 for the calls that C and Rust make, in one place, and of demand 1 what a refused read leaves. (Of the opening: fw_parser/Laws/Promises.)
-- `onerom_open` ensures: its reply is `opening_out (open_call …)`, the rows afterwards are `set_rows_left (open_call …)` and `rom_rows_left (open_call …)`.
-- `onerom_read_rom_set_data` ensures number, counts and buffer of `data_call …`; the byte reads number, counts and lent byte of `byte_call …`, the one
-- by the set's own ROMs those of `own_call …`. All are `job_read` with what the handed-back report says (`board_in`). The image and rows of a read are
-- lent for reading only. `open_call` is `opening`, of which `demand3` speaks, and the reads are the `job_read` of which it speaks.
-- Assumes nothing.
use Rattle.std.specs.Prelude.{ℕ, ◌≡◌, refl, Bool, true, false, List, [], leb, take}
use Rattle.std.proofs.lemmas.Bool.{leb-true, leb-false}
use Rattle.base.specs.Laws.{cases}
use Rattle.base.specs.Choice.{pick}
use Rattle.std.proofs.Common.{sym, ◌∙◌}
use Rattle.std.proofs.Math.Path.{ap}
use Rattle.window.specs.Window.{base_after, beyond_window}
use Rattle.types.specs.declared.McuLine.{McuLine}
use Rattle.board.specs.declared.BoardPins.{BoardPins}
use Rattle.board.specs.Board.{board_pins}
use Rattle.info.specs.declared.SdrrAddress.{SdrrAddress}
use Rattle.info.specs.Lent.{Lent, lent_by}
use Rattle.info.specs.Reads.{RomRead, range, byte, own, shown_byte, stored_p, finished, read_p, Reply, refused_reply, rom_read}
use Rattle.job_counts.specs.Counts.{count_of}
use Rattle.jobs.specs.Jobs.{job_read}
use Rattle.jobs.proofs.Laws.Steps.{no_job_read, job_read_is}
use Rattle.jobs.proofs.Laws.Carry.{job_same, job_kept}
use Rattle.window.specs.declared.Settings.{Settings}
use Rattle.sdrr_info.specs.declared.SdrrInfo.{SdrrInfo}
use Rattle.sdrr_info.specs.Report.{board_of}
use Rattle.fw_parser.specs.Opening.{Opened, refused, set_rows_left, rom_rows_left}
use Rattle.fw_parser.specs.Reply.{opening_reply}
use Rattle.opened_board.specs.ReadAfter.{read_after}
use Rattle.cut_short.specs.Demand3.{Opens, Demand3}
use Rattle.cut_short.proofs.Laws.Proof.{demand3, refused_refuses}
use Rattle.c_board.specs.Board.{levels_from, address_from}
use Rattle.c_report.specs.declared.OneromReport.{OneromReport}
use Rattle.c_report.specs.Report.{report_out}
use Rattle.c_handed.specs.Handed.{board_in}
use Rattle.c_handed.specs.Laws.{handed_back}
use Rattle.c_open.specs.Opening.{open_call, opening_out}
use Rattle.c_job_reads.specs.Reads.{data_call, byte_call, own_call}
use Rattle.own_reads.specs.Laws.Set0.{parted_number, set_0_new, set_0_old, set_0_parted}

-- ---- the reads as they are called: each is the read of a job, by the report and rows as lent (`call_is_read` in proofs/Laws/History)

-- ROM data is given no ROM rows; with any its answer is the same
pub data_is_read : (f c : ℕ) (report : OneromReport) (sets roms : List ℕ) (set offset n job : ℕ) (counts x : List ℕ)
    → data_call f c report sets set offset n job counts x ≡ job_read f c (lent_by (board_in f c report) sets roms) job counts (range set offset n) x
unfolding data_call job_read rom_read read_p stored_p finished
data_is_read f c report sets roms set offset n job counts x = refl

-- ---- wish 1: on set 0 `onerom_read_rom_byte_own` and the old read, `onerom_read_rom_byte_demangled` by a logical address

module _ (f c : ℕ) (report : OneromReport) (sets roms : List ℕ) (address : ℕ) (levels : List ℕ) (job : ℕ) (counts x : List ℕ) where
  abbrev board : Lent
  board = lent_by (board_in f c report) sets roms

  abbrev new_call : Reply
  new_call = own_call f c report sets roms 0 address levels job counts x

  abbrev old_call : Reply
  old_call = byte_call true f c report sets roms 0 1 address levels job counts x

  -- the new one accepts exactly if the old one does, and then the replies are equal
  pub own_accepts : new_call.number ≡ 0 → new_call ≡ old_call
  unfolding own_call byte_call
  own_accepts e =
      sym (job_kept f c board board _ _ job counts x x (λ count h. sym (set_0_new f c board count x address (levels_from levels) h)) e)

  pub old_accepts : old_call.number ≡ 0 → new_call ≡ old_call
  unfolding own_call byte_call
  old_accepts e = job_kept f c board board _ _ job counts x x (λ count h. set_0_old f c board count x address (levels_from levels) h) e

  -- in every case bytes and count are equal, and the number is the old one's, parted as said
  pub own_parted : new_call ≡ record { number = parted_number board old_call.number; bytes = old_call.bytes; count = old_call.count }
  unfolding own_call byte_call
  own_parted =
      cases (leb 8 job)
      (λ h.
      let past = leb-true 8 job h in
      rw (no_job_read f c board job counts new_read x past, no_job_read f c board job counts old_read x past) (go (beyond_window f c x)))
      (λ h.
      let below = leb-false 8 job h in
      rw (job_read_is f c board job counts new_read x below, job_read_is f c board job counts old_read x below)
      (set_0_parted f c board (count_of job counts) x address (levels_from levels)))
    where
      new_read : RomRead
      new_read = own 0 address (levels_from levels)

      old_read : RomRead
      old_read = byte 0 (SdrrAddress.Logical address (levels_from levels)) true

      go : (b : Bool) → refused_reply (pick b 1 83) (count_of job counts) ≡ record { number = parted_number board (pick b 1 83); bytes = []; count = count_of job counts }
      go true = refl
      go false = refl

-- ---- a report handed back unaltered: the reads are those of the opening's report

lent : McuLine → BoardPins → ℕ → List ℕ → List ℕ → Lent
lent m p n sets roms = record { line = m; pins = p; served = n; set_words = sets; rom_words = roms }

-- behind the base, no read looks at the line
same_reads : (base : ℕ) (m n : McuLine) (p : BoardPins) (served : ℕ) (sets roms : List ℕ) (count : ℕ) (r : RomRead)
    → read_p base (lent m p served sets roms) count r ≡ read_p base (lent n p served sets roms) count r
unfolding lent read_p stored_p finished shown_byte
same_reads base m n p served sets roms count (range set offset k) = refl
same_reads base m n p served sets roms count (byte set (SdrrAddress.Raw offset) false) = refl
same_reads base m n p served sets roms count (byte set (SdrrAddress.Raw offset) true) = refl
same_reads base m n p served sets roms count (byte set (SdrrAddress.Logical address levels) false) = refl
same_reads base m n p served sets roms count (byte set (SdrrAddress.Logical address levels) true) = refl
same_reads base m n p served sets roms count (own set address levels) = refl

read_by : (f c : ℕ) (m n : McuLine) (p : BoardPins) (served : ℕ) (sets roms : List ℕ) (count : ℕ) (r : RomRead) (x : List ℕ) → base_after f c m ≡ base_after f c n
    → rom_read f c (lent m p served sets roms) count r x ≡ rom_read f c (lent n p served sets roms) count r x
unfolding lent rom_read
read_by f c m n p served sets roms count r x e = rw (e, same_reads (base_after f c n) m n p served sets roms count r) refl

pub handed_read : (s : Settings) (f c : ℕ) (i : SdrrInfo) (sets roms : List ℕ) (count : ℕ) (r : RomRead) (x : List ℕ)
    → rom_read f c (lent_by (board_in f c (report_out i)) sets roms) count r x ≡ rom_read f c (lent_by (board_of s i) sets roms) count r x
unfolding lent
handed_read s f c i sets roms count r x =
    let b = board_in f c (report_out i) in
    let h = handed_back f c i in
    read_by f c b.line i.fields.stm_line b.pins b.served sets roms count r x h.base
    ∙ ap (λ (p : BoardPins). rom_read f c (lent i.fields.stm_line p b.served sets roms) count r x) h.pins
    ∙ ap (λ (n : ℕ). rom_read f c (lent i.fields.stm_line (board_pins i.pins) n sets roms) count r x) h.served

-- ---- demand 3: reads on what `onerom_open` handed out and left, of a refused opening too

module _ (f c : ℕ) (sets roms : List ℕ) where
  abbrev settings : ℕ → Settings
  settings o = record { flash_base = f; cs0_base = c; info_offset = o }

  abbrev pub data_after : Opened → (set offset n job : ℕ) → (counts x : List ℕ) → Reply
  data_after p set offset n job counts x = data_call f c (opening_out p).report (set_rows_left p sets) set offset n job counts x

  abbrev pub byte_after : Bool → Opened → (set logical address : ℕ) → (levels : List ℕ) → (job : ℕ) → (counts x : List ℕ) → Reply
  byte_after demangled p set logical address levels job counts x =
      byte_call demangled f c (opening_out p).report (set_rows_left p sets) (rom_rows_left p roms) set logical address levels job counts x

  abbrev pub own_after : Opened → (set address : ℕ) → (levels : List ℕ) → (job : ℕ) → (counts x : List ℕ) → Reply
  own_after p set address levels job counts x = own_call f c (opening_out p).report (set_rows_left p sets) (rom_rows_left p roms) set address levels job counts x

  -- they are the reads of which demand 3 speaks
  abbrev any_after : Opened → (job : ℕ) → (counts : List ℕ) → RomRead → List ℕ → Reply
  any_after p job counts r x = job_read f c (lent_by (board_in f c (opening_out p).report) (set_rows_left p sets) (rom_rows_left p roms)) job counts r x

  any_after_is : (o : ℕ) (p : Opened) (job : ℕ) (counts : List ℕ) (r : RomRead) (x : List ℕ) → any_after p job counts r x ≡ read_after (settings o) sets roms p job counts r x
  any_after_is o p job counts r x =
      job_same f c _ _ r r job counts x (λ count. handed_read (settings o) f c (opening_reply p).info (set_rows_left p sets) (rom_rows_left p roms) count r x)

  data_any : (p : Opened) (set offset n job : ℕ) (counts x : List ℕ) → data_after p set offset n job counts x ≡ any_after p job counts (range set offset n) x
  data_any p set offset n job counts x = data_is_read f c (opening_out p).report (set_rows_left p sets) (rom_rows_left p roms) set offset n job counts x

  -- what a refused opening handed back serves no read
  refused_serves_none : (n job : ℕ) (counts : List ℕ) (r : RomRead) (x : List ℕ) → (any_after (refused n) job counts r x).number ≡ 0 → ⊥
  refused_serves_none n job counts r x h =
      refused_refuses (settings 0) sets roms n job counts r x (ap (λ (t : Reply). t.number) (sym (any_after_is 0 (refused n) job counts r x)) ∙ h)

  pub refused_serves_no_data : (n set offset m job : ℕ) (counts x : List ℕ) → (data_after (refused n) set offset m job counts x).number ≡ 0 → ⊥
  refused_serves_no_data n set offset m job counts x h =
      refused_serves_none n job counts (range set offset m) x (ap (λ (t : Reply). t.number) (sym (data_any (refused n) set offset m job counts x)) ∙ h)

  pub refused_serves_no_byte : (demangled : Bool) (n set logical address : ℕ) (levels : List ℕ) (job : ℕ) (counts x : List ℕ)
      → (byte_after demangled (refused n) set logical address levels job counts x).number ≡ 0 → ⊥
  unfolding byte_call
  refused_serves_no_byte demangled n set logical address levels job counts x h =
      refused_serves_none n job counts (byte set (address_from logical address levels) demangled) x h

  pub refused_serves_no_own : (n set address : ℕ) (levels : List ℕ) (job : ℕ) (counts x : List ℕ) → (own_after (refused n) set address levels job counts x).number ≡ 0 → ⊥
  unfolding own_call
  refused_serves_no_own n set address levels job counts x h = refused_serves_none n job counts (own set address (levels_from levels)) x h

  module _ (o : ℕ) (x : List ℕ) (opens : Opens (open_call f c o sets roms x)) (k : ℕ) where
    abbrev cut : Opened
    cut = open_call f c o sets roms (take k x)

    abbrev whole : Opened
    whole = open_call f c o sets roms x

    -- report, rows and items, for every image that opens and every cut
    pub cut_short : Demand3 (settings o) sets roms x k
    cut_short = demand3 (settings o) sets roms x opens k

    -- a call that the cut image answers with number 0, the whole answers with the same number, bytes and count
    any_kept : (job : ℕ) (counts : List ℕ) (r : RomRead) → (any_after cut job counts r (take k x)).number ≡ 0 → any_after whole job counts r x ≡ any_after cut job counts r (take k x)
    any_kept job counts r h =
        let e = any_after_is o cut job counts r (take k x) in
        any_after_is o whole job counts r x ∙ cut_short.reads_kept job counts r (ap (λ (t : Reply). t.number) (sym e) ∙ h) ∙ sym e

    pub data_kept : (set offset n job : ℕ) (counts : List ℕ) → (data_after cut set offset n job counts (take k x)).number ≡ 0
        → data_after whole set offset n job counts x ≡ data_after cut set offset n job counts (take k x)
    data_kept set offset n job counts h =
        let e = data_any cut set offset n job counts (take k x) in
        data_any whole set offset n job counts x ∙ any_kept job counts (range set offset n) (ap (λ (t : Reply). t.number) (sym e) ∙ h) ∙ sym e

    pub byte_kept : (demangled : Bool) (set logical address : ℕ) (levels : List ℕ) (job : ℕ) (counts : List ℕ)
        → (byte_after demangled cut set logical address levels job counts (take k x)).number ≡ 0
        → byte_after demangled whole set logical address levels job counts x ≡ byte_after demangled cut set logical address levels job counts (take k x)
    unfolding byte_call
    byte_kept demangled set logical address levels job counts h = any_kept job counts (byte set (address_from logical address levels) demangled) h

    pub own_kept : (set address : ℕ) (levels : List ℕ) (job : ℕ) (counts : List ℕ) → (own_after cut set address levels job counts (take k x)).number ≡ 0
        → own_after whole set address levels job counts x ≡ own_after cut set address levels job counts (take k x)
    unfolding own_call
    own_kept set address levels job counts h = any_kept job counts (own set address (levels_from levels)) h
