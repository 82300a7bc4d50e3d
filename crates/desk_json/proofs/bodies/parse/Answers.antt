use Rattle.std.proofs.Common.{◌≡◌, true, inl, sym, ◌∙◌, true≢false}
use Rattle.serde_json.specs.View.{view}
use Rattle.desk_json.proofs.ParsedBodies.{parsed_json, parsed_no_json}
use Rattle.desk_json.proofs.bodies.parse.Goals as goal

pub returns-in-Ok : goal.returns-in-Ok
returns-in-Ok c = record {
  json = parsed_json c.args.body.now (view c.in-Ok.value) c.in-Ok.ensures.ok.0 c.in-Ok.ensures.ok.1;
  fault = tt;
}

pub returns-else-is_memory : goal.returns-else-is_memory
returns-else-is_memory c = record {
  json = tt;
  fault = inl (parsed_no_json c.args.body.now (c.in-Err.ensures.err (λ m. let is : c.is_memory.result ≡ true = c.is_memory.ensures.1 m in true≢false (sym is ∙ c.if-is_memory.false))));
}
