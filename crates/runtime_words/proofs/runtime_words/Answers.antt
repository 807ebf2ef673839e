use Rattle.runtime_words.proofs.Spread.{written_out}
use Rattle.runtime_words.proofs.runtime_words.Goals as goal

pub returns : goal.returns
returns c =
    written_out c.args.h c.args.f c.head_words-a.ensures c.v060_words-b.ensures c.v062_words-c.ensures c.v063_words-d.ensures c.v067_words-e.ensures
