use Rattle.std.proofs.Common.{◌≡◌, ◌++◌, bytes_eq, ◌∙◌}
use Rattle.std.proofs.lemmas.Bool.Decides.{Decides-eqb}
use Rattle.std.proofs.lemmas.Slice.Eq.{strip_prefix_is}
use Rattle.desk_json.specs.Words.{table_name}
use Rattle.desk_json.proofs.NamesBehind.{is_named, none_named}
use Rattle.desk_json.proofs.acts.is_behind.Goals as goal

pub returns-in-Some : goal.returns-in-Some
returns-in-Some c =
    let found = strip_prefix_is Decides-eqb c.as_bytes.result.now c.as_bytes-2.result.now c.strip_prefix.result c.strip_prefix.ensures.cases in
    let behind = rw c.in-Some.is at found in
    let name : c.as_bytes-in-Some.result.now ≡ table_name c.args.table = c.as_bytes-in-Some.ensures.value ∙ c.table_name.ensures in
    let named : bytes_eq c.in-Some.name.now (table_name c.args.table) ≡ bytes_eq (c.args.front.now ++ table_name c.args.table) c.args.text.now =
    is_named c.args.front.now (table_name c.args.table) c.args.text.now c.in-Some.name.now (rw (c.as_bytes.ensures.value, c.as_bytes-2.ensures.value) at behind) in
    c.eq.ensures ∙ rw name named

pub returns-in-None : goal.returns-in-None
returns-in-None c =
    let found = strip_prefix_is Decides-eqb c.as_bytes.result.now c.as_bytes-2.result.now c.strip_prefix.result c.strip_prefix.ensures.cases in
    none_named c.args.front.now (table_name c.args.table) c.args.text.now (rw (c.as_bytes.ensures.value, c.as_bytes-2.ensures.value, c.in-None.is) at found)
