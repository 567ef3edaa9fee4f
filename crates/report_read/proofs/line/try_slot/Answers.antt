-- `try_slot` meets its contract. Assumes nothing.
use Rattle.report_read.proofs.Tries.{slot_out, slot_hit, slot_missed}
use Rattle.report_read.proofs.line.try_slot.Goals as goal

pub returns-then-is_out : goal.returns-then-is_out
returns-then-is_out c =
    record {
      value = (slot_out c.args.words.now c.args.q c.args.line.now c.requires.words_len c.requires.q_lt_line_count c.last_decimal-n.result
          c.requires.q_bound c.last_decimal-n.ensures c.is_out.ensures c.if-is_out.true).0;
      words_after = (slot_out c.args.words.now c.args.q c.args.line.now c.requires.words_len c.requires.q_lt_line_count c.last_decimal-n.result
          c.requires.q_bound c.last_decimal-n.ensures c.is_out.ensures c.if-is_out.true).1;
    }

pub returns-then-same_slot : goal.returns-then-same_slot
returns-then-same_slot c =
    record {
      value = (slot_hit c.args.words.now c.args.q c.args.line.now c.requires.words_len c.requires.q_lt_line_count c.last_decimal-n.result
          c.requires.q_bound c.last_decimal-n.ensures c.is_out.ensures c.if-is_out.false c.same_slot.ensures c.if-same_slot.true).0;
      words_after = (slot_hit c.args.words.now c.args.q c.args.line.now c.requires.words_len c.requires.q_lt_line_count c.last_decimal-n.result
          c.requires.q_bound c.last_decimal-n.ensures c.is_out.ensures c.if-is_out.false c.same_slot.ensures c.if-same_slot.true).1;
    }

pub returns : goal.returns
returns c =
    record {
      value = (slot_missed c.args.words.now c.args.q c.args.line.now c.requires.words_len c.requires.q_lt_line_count c.last_decimal-n.result
          c.requires.q_bound c.last_decimal-n.ensures c.is_out.ensures c.if-is_out.false c.same_slot.ensures c.if-same_slot.false).0;
      words_after = (slot_missed c.args.words.now c.args.q c.args.line.now c.requires.words_len c.requires.q_lt_line_count c.last_decimal-n.result
          c.requires.q_bound c.last_decimal-n.ensures c.is_out.ensures c.if-is_out.false c.same_slot.ensures c.if-same_slot.false).1;
    }
