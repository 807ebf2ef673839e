-- Document 02, wish 4, for the calls that C and Rust make: what their statements say of a history.
-- Assumes nothing.
use Rattle.std.specs.Prelude.{ℕ, ◌+◌, ◌≤◌, ◌<◌, ◌≡◌, refl, Bool, true, false, List, [], ◌∷◌, eqb, length, get_or}
use Rattle.std.proofs.Common.{sym, ap, ap₂, ◌∙◌, ne_eqb}
use Rattle.base.specs.Choice.{pick}
use Rattle.machine.specs.Machine.{state_after, gained}
use Rattle.info.specs.Reads.{Reply, buffer_left}
use Rattle.byte_reads.specs.Calls.{byte_of}
use Rattle.job_counts.specs.Counts.{count_of}
use Rattle.jobs.specs.Jobs.{counts_left}
use Rattle.jobs.specs.Histories.{read_reply_of, jobs_by, gain_of}
use Rattle.jobs.specs.Isolated.{Isolated, ByNoJob}
use Rattle.jobs.proofs.Laws.Steps.{refused_left, reply_count}
use Rattle.jobs.proofs.Laws.History.{by_no_job, isolated, count_within}
use Rattle.c_board.specs.Value.{value_after}
use Rattle.c_job_reads.specs.Reads.{data_call, byte_call, own_call}
use Rattle.onerom.specs.Laws.History.{Call, data_read, byte_read, own_read, answer_to, read_is, bytes_of, accepted_bytes, AsStated}

pub call_is_read : (c : Call) (counts : List ℕ) → answer_to c counts ≡ read_reply_of (read_is c) counts
unfolding data_call byte_call own_call
call_is_read (data_read f c report sets set offset buffer job x) counts = refl
call_is_read (byte_read d f c report sets roms set logical address levels job value x) counts = refl
call_is_read (own_read f c report sets roms set address levels job value x) counts = refl

pub as_stated : (c : Call) (counts : List ℕ) → AsStated c counts
as_stated c counts =
    let e = call_is_read c counts in
    let d = read_is c in
    record {
      number = ap (λ (t : Reply). t.number) (sym e);
      buffer = ap (λ (t : Reply). buffer_left t d.buffer) (sym e);
      counts_left_is = ap (counts_left d.job counts) (sym e);
      its_count = λ eight. reply_count d.flash_base d.cs0_base d.lent d.job counts d.read d.image eight ∙ ap (λ (t : Reply). count_of d.job (counts_left d.job counts t)) (sym e);
    }

-- of a byte read the buffer is the lent byte
pub lent_byte : (t : Reply) (before : ℕ) → get_or (buffer_left t (before ∷ [])) 0 0 ≡ value_after t.number (byte_of t).byte before
lent_byte t before = go (eqb t.number 0)
  where
    go : (b : Bool) → get_or (pick b t.bytes (before ∷ [])) 0 0 ≡ pick b (get_or t.bytes 0 0) before
    go true = refl
    go false = refl

-- a refused call leaves all eight counts, and every byte that it is lent
pub refused_leaves : (c : Call) (counts : List ℕ) → ((answer_to c counts).number ≡ 0 → ⊥)
    → (counts_left (read_is c).job counts (answer_to c counts) ≡ counts) × (buffer_left (answer_to c counts) (read_is c).buffer ≡ (read_is c).buffer)
refused_leaves c counts h = (refused_left (read_is c).job counts (answer_to c counts) h, rw (ne_eqb (answer_to c counts).number 0 h))

-- what a call gains for a job is its bytes, if it is the job's and accepted
one_gains : (j : ℕ) (c : Call) (counts : List ℕ)
    → gain_of read_is j c ((jobs_by read_is).reply c counts) ≡ pick (eqb (read_is c).job j) (pick (eqb (answer_to c counts).number 0) (bytes_of c) 0) 0
unfolding data_call byte_call own_call
one_gains j (data_read f c report sets set offset buffer job x) counts = refl
one_gains j (byte_read d f c report sets roms set logical address levels job value x) counts = refl
one_gains j (own_read f c report sets roms set address levels job value x) counts = refl

gains : (j : ℕ) (counts : List ℕ) (h : List Call) → gained (jobs_by read_is) (gain_of read_is j) counts h ≡ accepted_bytes j counts h
unfolding gained accepted_bytes
gains j counts [] = refl
gains j counts (c ∷ cs) =
    ap₂ (λ (a b : ℕ). a + b) (one_gains j c counts)
    (gains j ((jobs_by read_is).next c counts) cs ∙ ap (λ (t : Reply). accepted_bytes j (counts_left (read_is c).job counts t) cs) (sym (call_is_read c counts)))

-- ---- the promises, whatever report, rows and image a call is given

module _ (h : List Call) (j : ℕ) (below : j < 8) (counts : List ℕ) (eight : length counts ≡ 8) where
  -- replies and count of a job are those of its own calls by themselves; its count grows by its accepted lengths
  pub calls_isolated : Isolated read_is counts h j
  calls_isolated = isolated read_is j below counts eight h

  -- by the bytes of the calls that were accepted, and by nothing else
  pub calls_count : count_of j (state_after (jobs_by read_is) counts h) ≡ count_of j counts + accepted_bytes j counts h
  calls_count = calls_isolated.count_sums ∙ ap (λ (n : ℕ). count_of j counts + n) (gains j counts h)

  pub calls_fit : count_of j counts ≤ 4294967295 → count_of j (state_after (jobs_by read_is) counts h) ≤ 4294967295
  calls_fit fits = count_within read_is j below counts eight fits h

-- a call by a job of 8 or more
pub calls_by_no_job : (c : Call) (counts : List ℕ) → 8 ≤ (read_is c).job → ByNoJob (read_is c) counts
calls_by_no_job c counts h = by_no_job (read_is c) counts h
