-- What looking for metadata answers.
-- Assumes nothing.
use Rattle.std.specs.Prelude.{ℕ, ◌≡◌, true, false, List}
use Rattle.prog.specs.Prog.{run}
use Rattle.prog.proofs.Laws.Run.{run_done, run_map}
use Rattle.header.specs.declared.SdrrInfoHeader.{SdrrInfoHeader}
use Rattle.version.specs.Version.{from050}
use Rattle.metadata.specs.Metadata.{metadata_p}
use Rattle.sets_source.specs.Looked.{not_looked_for, looked, look_p}

module _ (x : List ℕ) (base : ℕ) (h : SdrrInfoHeader) where
  pub not_looked_for_is : from050 h.fields.version ≡ false → run (look_p base h) x ≡ not_looked_for
  unfolding look_p
  not_looked_for_is e = rw e (run_done x not_looked_for)

  pub looked_for : from050 h.fields.version ≡ true → run (look_p base h) x ≡ looked (run (metadata_p base h.rom_sets_ptr) x)
  unfolding look_p
  looked_for e = rw e (run_map x looked (metadata_p base h.rom_sets_ptr))
