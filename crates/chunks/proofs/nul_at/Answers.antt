use Rattle.std.proofs.Common.{ℕ, ◌≡◌, ◌==◌, length, arith, le-ltb}
use Rattle.std.specs.List.{position_or_len}
use Rattle.std.proofs.lemmas.List.Sums.{position_or_len_is}
use Rattle.chunks.proofs.nul_at.Goals as goal

pub returns : goal.returns
returns c =
    let s = c.args.s.now in
    let e : position_or_len (λ (b : ℕ). b == 0) s ≡ length s =
    position_or_len_is _ s (length s) 0 (omega arith) (λ k h. c.loop-i.invariant k (omega arith)) (λ h. absurd (omega arith)) in
    rw (e, le-ltb (length s) (length s) (omega arith))
