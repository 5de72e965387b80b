use Rattle.std.proofs.Common.{◌≡◌, ◌≤◌, rules, refl, ℕ, Vec, Global, ◌+◌, List, [], ◌∷◌, ◌++◌, sym, arith, map, length, subst, vec_len}
use Rattle.std.specs.String.{string_bytes}
use Rattle.std.proofs.lemmas.List.Elements.{All-append, All-cons, All-nil}
use Rattle.std.specs.List.{All}
use Rattle.sym_files.proofs.FileByFile.{may_as, name_at}
use Rattle.sym_files.specs.Passing.{Holds, MayAll}
use Rattle.sym_reduce.proofs.Files.{texts_next}
use Rattle.sym_reduce.proofs.window.read_first.Goals as goal

pub returns-then-bytes-gt-WINDOW_BYTES-clause-may : goal.returns-then-bytes-gt-WINDOW_BYTES-clause-may
returns-then-bytes-gt-WINDOW_BYTES-clause-may g c =
    let holds = g.F.Store.holds c.args.files.now in
    let names = map string_bytes c.args.names.now in
    let k = c.files.file in
    let name = c.as_str.result.now in
    let text = c.in-Ok.text.items in
    let at = name_at string_bytes c.args.names.now k c.index-names-file.result name c.files-test.true c.index-names-file.is c.as_str.ensures.value in
    let may = may_as (g.F.Store.holds c.files.files) holds name text text c.files.invariant.same refl c.in-Ok.ensures.read in
    let items : c.push.new.self.items ≡ c.files.texts.items ++ c.in-Ok.text ∷ [] = search rules in
    let count : vec_len c.push.new.self ≡ k + 1 = search rules in
    texts_next holds names c.files.texts.items c.push.new.self.items c.in-Ok.text k (vec_len c.push.new.self) name c.files.invariant.may at may items count

pub files-preserved : goal.files-preserved
files-preserved g c =
    let holds = g.F.Store.holds c.args.files.now in
    let names = map string_bytes c.args.names.now in
    let k = c.files.file in
    let name = c.as_str.result.now in
    let text = c.in-Ok.text.items in
    let at = name_at string_bytes c.args.names.now k c.index-names-file.result name c.files-test.true c.index-names-file.is c.as_str.ensures.value in
    let may = may_as (g.F.Store.holds c.files.files) holds name text text c.files.invariant.same refl c.in-Ok.ensures.read in
    let items : c.push.new.self.items ≡ c.files.texts.items ++ c.in-Ok.text ∷ [] = search rules in
    let count : vec_len c.push.new.self ≡ k + 1 = search rules in
    let Fits : Vec ℕ Global → Type 0 = λ text. length text.items ≤ c.args.max_bytes in
    record {
      count = count;
      few = search rules;
      may = texts_next holds names c.files.texts.items c.push.new.self.items c.in-Ok.text k (k + 1) name c.files.invariant.may at may items refl;
      fit = subst (All Fits) (sym items) (All-append Fits c.files.texts.items (c.in-Ok.text ∷ []) c.files.invariant.fit (All-cons Fits c.in-Ok.text [] c.in-Ok.ensures.fits (All-nil Fits)));
      same = search rules;
      later = search rules;
    }
