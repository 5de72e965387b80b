use Rattle.std.specs.Map.{keys_of}
use Rattle.sym_shuffle.proofs.DealtKeys.{goes_last, indexed_key, last_is_new, last_place, new_stays}
use Rattle.sym_shuffle.proofs.dealt.index_in.Goals as goal

pub returns-in-Some-clause-index : goal.returns-in-Some-clause-index
returns-in-Some-clause-index c = indexed_key (keys_of c.args.new.now.entries) c.args.key.now c.in-Some.index c.in-Some.ensures.index

pub returns-in-Some-clause-keys : goal.returns-in-Some-clause-keys
returns-in-Some-clause-keys c =
    let keys = keys_of c.args.new.now.entries in
    new_stays keys c.args.key.now c.in-Some.index (indexed_key keys c.args.key.now c.in-Some.index c.in-Some.ensures.index)

pub returns-in_ok-insert-in-None-clause-index : goal.returns-in_ok-insert-in-None-clause-index
returns-in_ok-insert-in-None-clause-index c =
    let old = c.args.new.now.entries in
    let new = c.insert.new.self.entries in
    let key = c.args.key.now in
    last_place old new key c.len-index.result c.len-index.ensures.len
    (goes_last old new key c.in_ok-copy-in-None.field-0 tt c.in_ok-copy-in-None.ensures c.in-None.ensures.found c.in_ok-insert-in-None.ensures.entries)

pub returns-in_ok-insert-in-None-clause-keys : goal.returns-in_ok-insert-in-None-clause-keys
returns-in_ok-insert-in-None-clause-keys c =
    let old = c.args.new.now.entries in
    let new = c.insert.new.self.entries in
    let key = c.args.key.now in
    last_is_new old new key c.in-None.ensures.found
    (goes_last old new key c.in_ok-copy-in-None.field-0 tt c.in_ok-copy-in-None.ensures c.in-None.ensures.found c.in_ok-insert-in-None.ensures.entries)
