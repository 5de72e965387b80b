use Rattle.std.proofs.Common.{◌≡◌, ◌∙◌, List, ℕ, Some, ap, sym}
use Rattle.sym_file.proofs.NumberTexts.{counted_found, counted_none}
use Rattle.sym_file.proofs.values.counted.Goals as goal

pub returns-in_ok-from_str-in-Ok : goal.returns-in_ok-from_str-in-Ok
returns-in_ok-from_str-in-Ok c =
    let front : List ℕ = c.split_at.result.0.now in
    let back : List ℕ = c.split_at.result.1.now in
    let utf = c.in-Ok.ensures.cases in
    let same : c.in_ok-from_str-in-Ok.field-0 ≡ front = c.in_ok-from_str-in-Ok.ensures ∙ utf.0 in
    counted_found c.args.bytes.now c.in_ok-count.count c.in_ok-count.rest.now c.in_ok-rest.rest.now front back c.in_ok-count.ensures.read c.in_ok-rest.ensures c.if-rest-count.false c.split_at.ensures.front c.split_at.ensures.back utf.1
    ∙ ap (λ (t : List ℕ). Some (t, back)) (sym same)

pub returns-in-Err : goal.returns-in-Err
returns-in-Err c =
    let front : List ℕ = c.split_at.result.0.now in
    let back : List ℕ = c.split_at.result.1.now in
    counted_none c.args.bytes.now c.in_ok-count.count c.in_ok-count.rest.now c.in_ok-rest.rest.now front back c.in_ok-count.ensures.read c.in_ok-rest.ensures c.if-rest-count.false c.split_at.ensures.front c.split_at.ensures.back c.in-Err.ensures.cases.0
