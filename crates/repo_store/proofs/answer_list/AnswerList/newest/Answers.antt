use Rattle.std.proofs.Common.{◌≡◌, ◌≢◌, Option, None, Some, IsSome, List, [], ◌∷◌, refl, sym, ap, subst, ◌∙◌}
use Rattle.std.specs.List.{slice_get}
use Rattle.std.specs.Map.{values_of}
use Rattle.std.specs.Map.Iter.{deref_pair}
use Rattle.std.specs.Option.{option_map}
use Rattle.std.proofs.lemmas.Option.{slice_get-map}
use Rattle.repo_store.specs.Answers.{KeptAnswer}
use Rattle.repo_store.specs.Index.{Key}
use Rattle.repo_store.specs.ListedAnswers.{ListedAnswers}
use Rattle.repo_store.proofs.answer_list.AnswerList.newest.Goals as goal

some_first : {X : Type 0} (f : X → Key × KeptAnswer) (first : Option X) (entries : List (Key × KeptAnswer)) → option_map f first ≡ slice_get entries 0 → values_of entries ≢ [] → IsSome first
some_first f (Some x) entries is some = refl
some_first f None [] is some = absurd (some refl)
some_first f None (entry ∷ entries) is some = absurd (let never : ◌≡◌ {A = Option (Key × KeptAnswer)} None (Some entry) = is in cc)

pub unwrap-requires : goal.unwrap-requires
unwrap-requires c = some_first deref_pair c.peek_mru.result c.self.inside.cache.entries c.peek_mru.ensures (subst (λ (list : ListedAnswers). list.answers ≢ []) (sym c.self.view_is) c.requires)

pub returns : goal.returns
returns c =
    ap (λ (list : ListedAnswers). slice_get list.answers 0) (sym c.self.view_is) ∙ slice_get-map (λ (e : Key × KeptAnswer). e.1) c.self.inside.cache.entries 0
    ∙ ap (option_map (λ (e : Key × KeptAnswer). e.1)) (sym c.peek_mru.ensures ∙ ap (option_map deref_pair) c.unwrap.ensures)
