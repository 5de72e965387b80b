use Rattle.std.proofs.Common.{◌≡◌, ◌∙◌, ◌++◌, ℕ, List, ap, append_assoc, codes, length, sym}
use Rattle.std.proofs.lemmas.Result.{on_ok_weaker}
use Rattle.std.specs.Fmt.{decimal}
use Rattle.sym_pred.specs.Literals.{literals}
use Rattle.sym_pred.specs.declared.literal.Literal.{Literal}
use Rattle.sym_file.specs.Texts.{literal_text, spaced}
use Rattle.sym_file.proofs.Made.{count_is}
use Rattle.sym_file.proofs.writer.put_facts.Goals as goal

pub returns-clause-text : goal.returns-clause-text
returns-clause-text c =
    let ls : List Literal = literals c.args.facts.now in
    let old : List ℕ = c.args.out.now.items in
    let count : c.len.result ≡ length ls = c.len.ensures ∙ count_is c.args.facts.now in
    on_ok_weaker c.put_literals.result
    (λ e. e ∙ ap (λ (t : List ℕ). t ++ spaced literal_text ls) (c.in_ok-put_number.ensures ∙ ap (λ (t : List ℕ). t ++ decimal c.len.result) c.in_ok-put.ensures ∙ ap (λ (n : ℕ). (old ++ codes "f") ++ decimal n) count)
    ∙ append_assoc (old ++ codes "f") (decimal (length ls)) (spaced literal_text ls) ∙ append_assoc old (codes "f") (decimal (length ls) ++ spaced literal_text ls)
    ∙ ap (λ (t : List ℕ). old ++ t) (sym (append_assoc (codes "f") (decimal (length ls)) (spaced literal_text ls))))
    c.put_literals.ensures.text
