-- `Volume::read` meets its contract: the refusal, or the fields and the type. Assumes nothing.
use Rattle.std.proofs.Common.{rules, ◌≡◌, ◌∙◌, refl, sym, ap, Err}
use native.Mathlib.Omega.{arith}
use lib.ListN.{length, get_or}
use Rattle.volume.specs.Information.{type_of}
use Rattle.volume.proofs.InformationLaws.{read_kept, refused_answer, accepted_answer, accepted_left, field_at}
use Rattle.volume.proofs.Volume.read.Goals as goal

pub returns-in_err-read_refusal : goal.returns-in_err-read_refusal
returns-in_err-read_refusal c =
    let e : c.from_residual.result ≡ Err c.in_err-read_refusal.field-0.0 = search rules in
    rw e (record { answer = refused_answer _ _ _ c.in_err-read_refusal.ensures; fields_left = refl })

pub put_fields-requires : goal.put_fields-requires
put_fields-requires c = let k = (read_kept c.args.volume.now (length c.args.fields.now) (sym c.in_ok-read_refusal.ensures)).long in (k.fields, k.volume)

pub bounds-volume-5 : goal.bounds-volume-5
bounds-volume-5 c = let k = (read_kept c.args.volume.now (length c.args.fields.now) (sym c.in_ok-read_refusal.ensures)).long in omega (arith, k.volume)

pub returns : goal.returns
returns c = record {
  answer = accepted_answer _ _ _ c.in_ok-read_refusal.ensures (c.type_of.ensures ∙ sym (ap type_of (field_at c.args.volume.now 2 (omega arith))));
  fields_left = accepted_left (get_or c.args.volume.now 5 0) _ _ _ _ c.type_of.ensures c.put_fields.ensures;
}
