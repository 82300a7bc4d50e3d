use Rattle.std.proofs.Common.{Result, Ok, Err, MatchResult, IsOk, rules}
use Rattle.std.proofs.lemmas.Str.{IsUtf8-from_ascii}
use Rattle.desk_json.proofs.moments.ascii_text.Goals as goal

no_error : {A E : Type 0} (P : A → Type 0) (Q : E → Type 0) (r : Result A E) → MatchResult r P Q → ((e : E) → ¬ (Q e)) → IsOk r
no_error P Q (Ok x) h none = search rules
no_error P Q (Err e) h none = absurd (none e h)

pub unwrap-requires : goal.unwrap-requires
unwrap-requires c = no_error _ _ c.from_utf8.result c.from_utf8.ensures.cases (λ e q. q.0 (IsUtf8-from_ascii c.args.bytes.now c.requires))
