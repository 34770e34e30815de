use Rattle.std.proofs.Common.{◌+◌, length, subst}
use Rattle.scql_model.specs.Replies.{Reply}
use Rattle.card_c.specs.HeldCard.{AnswersInto}
use Rattle.card_c.proofs.Replies.{answers-into}
use Rattle.card_c.proofs.reply_octets.write_octets.Goals as goal

pub returns : goal.returns
returns c =
    let body = c.as_slice-body.result.now in
    subst (λ (reply : Reply). AnswersInto reply (length body + 2) c.write_over-2.new.into) c.reply.view_is
    (answers-into (record { body = c.reply.inside.body.items; word = c.reply.inside.word }) body c.octets_of.result c.args.into.now c.write_over.new.into c.write_over-2.new.into
    c.as_slice-body.ensures.value c.octets_of.ensures c.write_over.ensures c.write_over-2.ensures)
