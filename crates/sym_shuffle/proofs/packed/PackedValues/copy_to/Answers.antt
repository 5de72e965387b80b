use Rattle.std.proofs.Common.{◌≡◌, ◌∙◌, List, ap, get_or, refl, sym}
use Rattle.std.proofs.lemmas.Result.{on_ok_weaker}
use Rattle.csv.specs.Records.{fields_of}
use Rattle.sym_base.specs.declared.values.value.Value.{Value}
use Rattle.sym_base.specs.declared.values.value.Value.TheVariants as value
use Rattle.sym_shuffle.specs.declared.packed.Packed.{Packed}
use Rattle.sym_shuffle.specs.Packing.{unpacked, unpacked_one}
use Rattle.sym_shuffle.proofs.PackedWords.{value_at, word_read}
use Rattle.sym_shuffle.proofs.packed.PackedValues.copy_to.Goals as goal

pub returns-in-Some-Word : goal.returns-in-Some-Word
returns-in-Some-Word c =
    let words : List _ = fields_of c.self.inside.words in
    let index = c.args.index in
    let held = c.args.value.now in
    let item = c.in-Some-Word.field-0.now in
    let lookup = c.in-Some-Word.ensures.lookup in
    let there =
    ap (λ (vs : List Value). get_or vs index held) (sym c.self.view_is)
    ∙ ap (λ (items : List Packed). get_or (unpacked words items) index held) (sym c.deref.ensures.value)
    ∙ value_at words c.deref.result.now index item held lookup.3.0 lookup.1
    ∙ ap (unpacked_one words) c.in-Some-Word.field-0-is in
    let word = word_read (λ s. s.now) c.get-in-Some-Word.result _ c.unwrap_or-word.result words c.in-Some-Word.at c.get-in-Some-Word.ensures.value c.unwrap_or-word.ensures refl in
    on_ok_weaker c.set_word.result (λ set. set ∙ ap value.Word word ∙ sym there) c.set_word.ensures.ok
