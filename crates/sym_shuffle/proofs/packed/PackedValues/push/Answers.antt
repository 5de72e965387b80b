use Rattle.std.proofs.Common.{◌∙◌, ◌++◌, [], ◌∷◌, List, ap}
use Rattle.csv.specs.Records.{fields_of}
use Rattle.sym_base.specs.declared.values.value.Value.{Value}
use Rattle.sym_shuffle.specs.Packing.{words_of}
use Rattle.sym_shuffle.proofs.PackedWords.{pushed_last}
use Rattle.sym_shuffle.proofs.packed.PackedValues.push.Goals as goal

pub returns-in_ok-push-in-Ok : goal.returns-in_ok-push-in-Ok
returns-in_ok-push-in-Ok c =
    let value = c.args.value.now in
    pushed_last (fields_of c.self.inside.words) (words_of value) (fields_of c.packed_of.new.words) c.self.inside.items.items c.push.new.self.items c.in-Ok.packed value
    c.self.invariant c.in-Ok.ensures.words c.in_ok-push-in-Ok.ensures.items c.in-Ok.ensures.value
    ∙ ap (λ (vs : List Value). vs ++ value ∷ []) c.self.view_is
