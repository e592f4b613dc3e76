use Rattle.std.proofs.Common.{◌∙◌, ap, lit<, List, [], ℕ, Bool, map}
use Rattle.std.specs.List.{list_all}
use Rattle.std.proofs.lemmas.Iterator.Consumers.{YieldsList-end}
use Rattle.std.proofs.lemmas.Iterator.Splits.{YieldsList-from_str_split}
use Rattle.named_files.specs.NamedPaths.{with_paths}
use Rattle.hookhost.specs.LinkedPlaces.{is_link_name, place_in_top, places_if}
use Rattle.hookhost.proofs.LinkLemmas.{names-more, places-more, texts_of}
use Rattle.hookhost.proofs.folder_links.linked_places.Goals as goal

pub names-preserved : goal.names-preserved
names-preserved c = record {
  all = c.both-are_both.ensures ∙ names-more c.names.yielded c.in-Some.name c.names.are_names c.in_ok-is_name.is_name c.names.invariant.all c.in_ok-is_name.ensures;
  each = places-more c.args.top.now c.names.yielded c.in-Some.name c.names.places c.in_ok-places.places c.as_str.result.now
      c.names.invariant.each (c.as_str.ensures.value ∙ c.in_ok-place.ensures) c.in_ok-places.ensures;
}

pub returns : goal.returns
returns c =
    let all = YieldsList-end (YieldsList-from_str_split 58 c.args.names.now (lit< tt) (cc) (cc) (cc)) c.names.yielded _ c.names.yielded_by _ _ c.in-None.is c.next.ensures.steps in
    c.places_if.ensures
    ∙ ap (λ (b : Bool). places_if b c.names.places) c.names.invariant.all
    ∙ ap (places_if (list_all is_link_name (texts_of c.names.yielded))) c.names.invariant.each
    ∙ ap (λ (pieces : List (List ℕ)). places_if (list_all is_link_name pieces) (with_paths [] (map (place_in_top c.args.top.now) pieces))) all.0
