use Rattle.std.proofs.Common.{◌∙◌, ap, sym}
use Rattle.sym_check.specs.Checking.Places.{place_of}
use Rattle.sym_check.proofs.elaborate.scope.Scope.pop.Goals as goal

pub invariant_of-self-2 : goal.invariant_of-self-2
invariant_of-self-2 c =
    c.forget.ensures c.pop.new.self.items c.in-Some.entry (sym (c.len.ensures ∙ c.pop.new.self.ok.0)) (sym c.as_str.ensures)
    (λ text. c.self.invariant text ∙ ap (λ s. place_of s text) c.in-Some.ensures.items)
