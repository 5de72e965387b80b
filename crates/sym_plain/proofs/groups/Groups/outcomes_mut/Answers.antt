use Rattle.std.proofs.Common.{◌∙◌, ap, refl, subst}
use Rattle.std.specs.List.{IsDistinct}
use Rattle.sym_check.specs.Meaning.Groups.{is_key}
use Rattle.sym_plain.specs.Pairs.{put_values}
use Rattle.sym_plain.proofs.Zipped.{keys-are, values-are, zip-refill}
use Rattle.sym_plain.proofs.groups.Groups.outcomes_mut.Goals as goal

pub returns : goal.returns
returns c =
    let ks = c.self.inside.keys.keys in
    let vs = c.self.inside.outcomes.items in (
      (refl, λ w. zip-refill ks vs w c.self.inside.outcomes.len c.self.invariant.1 c.self.inside.outcomes.ok.0 ∙ ap (λ ps. put_values ps w) c.self.view_is),
      record {
        writes_back = tt;
        outcomes = c.as_mut_slice.ensures.value ∙ values-are ks vs c.args.self.now c.self.view_is c.self.invariant.1;
        distinct = subst (IsDistinct is_key) (keys-are ks vs c.args.self.now c.self.view_is c.self.invariant.1) c.self.invariant.0;
      },
    )
