-- `Volume::make` meets its contract: the refusal, or the volume and its type. Assumes nothing.
use Rattle.std.proofs.Common.{rules, ◌≡◌, refl, sym, Err}
use native.Mathlib.Omega.{arith}
use lib.ListN.{length, get_or}
use Rattle.volume.proofs.InformationLaws.{make_kept, refused_answer, accepted_answer, accepted_left}
use Rattle.volume.proofs.Volume.make.Goals as goal

pub returns-in_err-make_refusal : goal.returns-in_err-make_refusal
returns-in_err-make_refusal c =
    let e : c.from_residual.result ≡ Err c.in_err-make_refusal.field-0.0 = search rules in
    rw e (record { answer = refused_answer _ _ _ c.in_err-make_refusal.ensures; volume_left = refl })

pub put_volume-requires : goal.put_volume-requires
put_volume-requires c = let k = (make_kept c.args.fields.now (length c.args.volume.now) (sym c.in_ok-make_refusal.ensures)).long in (k.volume, k.fields)

pub bounds-fields-2 : goal.bounds-fields-2
bounds-fields-2 c = let k = (make_kept c.args.fields.now (length c.args.volume.now) (sym c.in_ok-make_refusal.ensures)).long in omega (arith, k.fields)

pub returns : goal.returns
returns c = record {
  answer = accepted_answer _ _ _ c.in_ok-make_refusal.ensures c.type_of.ensures;
  volume_left = accepted_left (get_or c.args.fields.now 2 0) _ _ _ _ c.type_of.ensures c.put_volume.ensures;
}
