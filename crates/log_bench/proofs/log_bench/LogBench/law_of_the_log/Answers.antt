use Rattle.log_bench.specs.LogBench.{log_of, first_of, image_of}
use Rattle.log_bench.proofs.Logged.{cut-since}
use Rattle.log_bench.proofs.log_bench.LogBench.law_of_the_log.Goals as goal

pub returns-clause-cuts : goal.returns-clause-cuts
returns-clause-cuts c left cut =
    let was = c.args.self.now in
    cut-since (image_of was) (first_of was) (log_of was) was.octets_written was.fits was.replays left cut
