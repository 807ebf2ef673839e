-- Demand 3, proved: from the cut of each reader, of the whole opening, and of a ROM read.
-- Assumes nothing.
use Rattle.std.specs.Prelude.{ℕ, ◌≤◌, Bool, List, length, take}
use native.Mathlib.Omega.{arith}
use Rattle.std.proofs.Math.Path.{◌≡◌, refl}
use Rattle.std.proofs.Common.{sym, ap, ◌∙◌, subst, inl, inr}
use Rattle.std.proofs.Math.Logic.{⊎_elim}
use Rattle.std.proofs.Math.Bool.{true, false}
use Rattle.base.specs.Choice.{pick}
use Rattle.types.specs.declared.McuLine.{McuLine}
use Rattle.window.specs.Window.{base_after, beyond_window}
use Rattle.window.specs.Laws.{window_cut}
use Rattle.prog.specs.Prog.{run, reach}
use Rattle.prog.proofs.Laws.Cut.{past, below, shown}
use Rattle.walk.specs.Walk.{roms_of}
use Rattle.walk.specs.Rows.{set_rows_of, rom_rows_of, overwritten}
use Rattle.info.specs.Lent.{Lent, lent_by}
use Rattle.info.specs.Reads.{RomRead, read_p, Reply, refused_reply, read_reply, rom_read}
use Rattle.info.proofs.Laws.Like.{Like, read_unserved}
use Rattle.window.specs.declared.Settings.{Settings}
use Rattle.sdrr_info.specs.Report.{board_of}
use Rattle.fw_parser.specs.Opening.{Opened, refused, opened, open_p, opening, set_rows_left, rom_rows_left}
use Rattle.fw_parser.specs.Reply.{no_report, opening_reply}
use Rattle.fw_parser.specs.Laws.Items.{opened_names}
use Rattle.cut_short.specs.Shown.{EndedOpening, KeptOpening}
use Rattle.job_counts.specs.Counts.{count_of}
use Rattle.jobs.specs.Jobs.{job_read}
use Rattle.jobs.proofs.Laws.Steps.{accepted_job, job_read_is}
use Rattle.jobs.proofs.Laws.Carry.{job_kept}
use Rattle.opened_board.specs.ReadAfter.{read_after}
use Rattle.cut_short.specs.Demand3.{Opens, Demand3}
use Rattle.cut_short.proofs.Laws.CutOpening.{EndedAny, Beside, open_cut}
use Rattle.cut_short.proofs.Laws.CutReads.{kept_like, read_kept}

abbrev outside : Settings → List ℕ → Bool
outside s x = beyond_window s.flash_base s.cs0_base x

pub opens_inside : (s : Settings) (n m : ℕ) (x : List ℕ) → Opens (opening s n m x) → outside s x ≡ false
unfolding opening
opens_inside s n m x o = go (outside s x) (run (open_p s n m) x) o
  where
    go : (b : Bool) (w : Opened) → Opens (pick b (refused 1) w) → b ≡ false
    go true w h = absurd h
    go false w h = refl

pub opening_run : (s : Settings) (n m : ℕ) (x : List ℕ) → outside s x ≡ false → opening s n m x ≡ run (open_p s n m) x
unfolding opening
opening_run s n m x e = rw e

module _ (s : Settings) (n m : ℕ) (x : List ℕ) where
  ended_opening : (o w : Opened) → run (open_p s n m) x ≡ o → Opens w → Beside o w → EndedAny o → EndedOpening o
  ended_opening (refused k) w e p (inl two) i = two
  ended_opening (refused k) w e p (inr same) i = absurd (subst Opens (sym same) p)
  ended_opening (opened r ss names) w e p b i = i (opened_names s x n m r ss names e)

  kept_opening : (o w : Opened) → run (open_p s n m) x ≡ o → Opens w → Beside o w → KeptOpening o w
  kept_opening (refused k) w e p (inl two) = two
  kept_opening (refused k) w e p (inr same) = absurd (subst Opens (sym same) p)
  kept_opening (opened r ss names) (refused k) e p b = absurd p
  kept_opening (opened r ss names) (opened r' ss' names') e p b = b (opened_names s x n m r ss names e)

-- ---- reads after an opening

module _ (s : Settings) where
  abbrev base_of : Lent → ℕ
  base_of l = base_after s.flash_base s.cs0_base l.line

  -- inside the window, the reply is what the reads answer
  read_reply_is : (l : Lent) (count : ℕ) (r : RomRead) (x : List ℕ) → outside s x ≡ false
      → rom_read s.flash_base s.cs0_base l count r x ≡ read_reply count r (run (read_p (base_of l) l count r) x)
  unfolding rom_read
  read_reply_is l count r x e = rw e

  -- where no set is served, no read is accepted
  pub unserved_refuses : (l : Lent) (count : ℕ) (r : RomRead) (x : List ℕ) → l.served ≡ 0 → (rom_read s.flash_base s.cs0_base l count r x).number ≡ 0 → ⊥
  unfolding rom_read
  unserved_refuses l count r x none h = go (outside s x) h
    where
      go : (b : Bool) → (pick b (refused_reply 1 count) (read_reply count r (run (read_p (base_of l) l count r) x))).number ≡ 0 → ⊥
      go true e = let z : ◌≡◌ {A = ℕ} 1 0 = e in omega arith
      go false e = read_unserved (base_of l) l count r x none e

  -- a read accepted on the cut image's board is the whole's
  read_whole : {l m : Lent} → Like l m → (count : ℕ) (r : RomRead) (x : List ℕ) (k : ℕ) → outside s x ≡ false
      → (rom_read s.flash_base s.cs0_base l count r (take k x)).number ≡ 0
      → rom_read s.flash_base s.cs0_base m count r x ≡ rom_read s.flash_base s.cs0_base l count r (take k x)
  read_whole {l} {m} like count r x k inside h =
      let cut = read_reply_is l count r (take k x) (window_cut s.flash_base s.cs0_base x k inside) in
      let number : (run (read_p (base_of l) l count r) (take k x)).number ≡ 0 = ap (λ (t : Reply). t.number) (sym cut) ∙ h in
      read_reply_is m count r x inside
      ∙ ap (λ (i : McuLine). read_reply count r (run (read_p (base_after s.flash_base s.cs0_base i) m count r) x)) (sym like.lines)
      ∙ ap (read_reply count r) (sym (read_kept like (base_of l) count r x k number))
      ∙ sym cut

  -- nor by any job
  pub unserved_job : (l : Lent) (job : ℕ) (counts : List ℕ) (r : RomRead) (x : List ℕ) → l.served ≡ 0 → (job_read s.flash_base s.cs0_base l job counts r x).number ≡ 0 → ⊥
  unserved_job l job counts r x none h =
      let here = job_read_is s.flash_base s.cs0_base l job counts r x (accepted_job s.flash_base s.cs0_base l job counts r x h) in
      unserved_refuses l (count_of job counts) r x none (ap (λ (t : Reply). t.number) (sym here) ∙ h)

  -- what a refused opening handed back serves nothing
  pub refused_refuses : (sets roms : List ℕ) (n job : ℕ) (counts : List ℕ) (r : RomRead) (x : List ℕ) → (read_after s sets roms (refused n) job counts r x).number ≡ 0 → ⊥
  unfolding opening_reply no_report
  refused_refuses sets roms n job counts r x h = unserved_job (lent_by (board_of s no_report) sets roms) job counts r x refl h

  reads_whole : (sets roms x : List ℕ) (k : ℕ) (o w : Opened) → outside s x ≡ false → Opens w → KeptOpening o w → (job : ℕ) (counts : List ℕ) (r : RomRead)
      → (read_after s sets roms o job counts r (take k x)).number ≡ 0 → read_after s sets roms w job counts r x ≡ read_after s sets roms o job counts r (take k x)
  unfolding opening_reply
  reads_whole sets roms x k (refused n) w inside p kept job counts r h = absurd (refused_refuses sets roms n job counts r (take k x) h)
  reads_whole sets roms x k (opened report ss names) (refused n) inside p kept job counts r h = absurd p
  reads_whole sets roms x k (opened report ss names) (opened report' ss' names') inside p kept job counts r h =
      ⊎_elim
      (λ (e : (report.rom_sets.number ≡ 2) × (report.rom_sets.served ≡ 0)).
      absurd (unserved_job (lent_by (board_of s report) (overwritten (set_rows_of ss) sets) (overwritten (rom_rows_of (roms_of ss) names) roms)) job counts r (take k x) e.1 h))
      (λ e. job_kept s.flash_base s.cs0_base _ _ r r job counts (take k x) x (λ count i. read_whole (kept_like s kept sets roms e) count r x k inside i) h) kept.sets

pub demand3 : (s : Settings) (sets roms x : List ℕ) → Opens (opening s (length sets) (length roms) x) → (k : ℕ) → Demand3 s sets roms x k
demand3 s sets roms x o k =
    let n = length sets in
    let m = length roms in
    let inside = opens_inside s n m x o in
    let whole : opening s n m x ≡ run (open_p s n m) x = opening_run s n m x inside in
    let cut : opening s n m (take k x) ≡ run (open_p s n m) (take k x) = opening_run s n m (take k x) (window_cut s.flash_base s.cs0_base x k inside) in
    let p : Opens (run (open_p s n m) x) = subst Opens whole o in
    let b : Beside (run (open_p s n m) (take k x)) (run (open_p s n m) x) = shown (open_cut s n m) x k in
    let kept : KeptOpening (opening s n m (take k x)) (opening s n m x) = rw (cut, whole) (kept_opening s n m (take k x) (run (open_p s n m) (take k x)) (run (open_p s n m) x) refl p b) in
    let same : reach (open_p s n m) x ≤ k → opening s n m (take k x) ≡ opening s n m x = λ h. cut ∙ sym (past (open_p s n m) x k h).answers ∙ sym whole in
    record {
      report_past = same;
      set_rows_past = λ h. ap (λ (t : Opened). set_rows_left t sets) (same h);
      rom_rows_past = λ h. ap (λ (t : Opened). rom_rows_left t roms) (same h);
      ended_below = λ h. rw cut (ended_opening s n m (take k x) (run (open_p s n m) (take k x)) (run (open_p s n m) x) refl p b (below (open_cut s n m) x k h));
      items_kept = kept;
      reads_kept = reads_whole s sets roms x k (opening s n m (take k x)) (opening s n m x) inside o kept;
    }
