use Rattle.std.proofs.Common.{rules, ◌≡◌, ◌∙◌, Err, refl}
use Rattle.judging.proofs.JudgingLaws.{schema_reads, reach_reads, typing_reads, reach_room, early_refuses, typing_answers}
use Rattle.judging.proofs.judge_into_rows.Goals as goal

pub check_model_and_schema-requires : goal.check_model_and_schema-requires
check_model_and_schema-requires c = let p = c.requires in record { tables = p.tables; reads = schema_reads p.reads c.load-permitted.ensures }

pub returns-in_err-check_model_and_schema : goal.returns-in_err-check_model_and_schema
returns-in_err-check_model_and_schema c =
    let told : c.from_residual.result ≡ Err c.in_err-check_model_and_schema.field-0.0 = search rules in
    λ T R. early_refuses _ (told ∙ c.in_err-check_model_and_schema.ensures T (schema_reads R c.load-permitted.ensures)) _ _ told

pub fill_reach-requires : goal.fill_reach-requires
fill_reach-requires c =
    let p = c.requires in
    record { tables = p.tables; reads = reach_reads p.reads c.load-permitted.ensures; room = p.forms; clear = p.unreached }

pub check_typing-requires : goal.check_typing-requires
check_typing-requires c =
    let p = c.requires in
    record {
      tables = p.tables;
      reads = typing_reads p.reads c.load-permitted.ensures p.forms (c.fill_reach.ensures p.tables (reach_reads p.reads c.load-permitted.ensures))
          c.full.ensures c.max.ensures refl refl refl;
      clear = p.unshown;
    }

pub returns : goal.returns
returns c =
    λ T R.
    let filled = c.fill_reach.ensures T (reach_reads R c.load-permitted.ensures) in
    typing_answers _ (c.in_ok-check_model_and_schema.ensures T (schema_reads R c.load-permitted.ensures)) _ _ refl filled
    (c.check_typing.ensures T
    (typing_reads R c.load-permitted.ensures (reach_room c.requires R) filled c.full.ensures c.max.ensures refl refl refl))
