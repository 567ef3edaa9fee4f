-- `try_exact` meets its contract. Assumes nothing.
use mathlib.Core.Path.{refl}
use Rattle.report_read.proofs.Tries.{zeros, exact_hit, exact_missed}
use Rattle.report_read.proofs.line.try_exact.Goals as goal

pub last_sum-requires : goal.last_sum-requires
last_sum-requires c =
    record { words_len = refl; words_value = zeros }

pub returns-then-same_exact : goal.returns-then-same_exact
returns-then-same_exact c =
    record {
      value = (exact_hit c.args.words.now c.args.q c.args.line.now c.requires.words_len c.requires.q_lt_line_count c.last_sum.new.words
          c.requires.q_value c.last_sum.ensures c.copy.new.out c.same_exact.ensures c.if-same_exact.true c.copy.ensures).0;
      words_after = (exact_hit c.args.words.now c.args.q c.args.line.now c.requires.words_len c.requires.q_lt_line_count c.last_sum.new.words
          c.requires.q_value c.last_sum.ensures c.copy.new.out c.same_exact.ensures c.if-same_exact.true c.copy.ensures).1;
    }

pub returns : goal.returns
returns c =
    record {
      value = (exact_missed c.args.words.now c.args.q c.args.line.now c.requires.words_len c.requires.q_lt_line_count c.last_sum.new.words
          c.requires.q_value c.last_sum.ensures c.same_exact.ensures c.if-same_exact.false).0;
      words_after = (exact_missed c.args.words.now c.args.q c.args.line.now c.requires.words_len c.requires.q_lt_line_count c.last_sum.new.words
          c.requires.q_value c.last_sum.ensures c.same_exact.ensures c.if-same_exact.false).1;
    }
