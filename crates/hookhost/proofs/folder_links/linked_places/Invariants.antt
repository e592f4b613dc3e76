use Rattle.std.proofs.Common.{◌≡◌, [], map}
use Rattle.std.specs.List.{list_all}
use Rattle.named_files.specs.NamedPaths.{with_paths}
use Rattle.hookhost.specs.LinkedPlaces.{is_link_name, place_in_top}
use Rattle.hookhost.proofs.LinkLemmas.{texts_of}
use Rattle.hookhost.proofs.folder_links.linked_places.Given as goal

abbrev pub invariant-names : goal.invariant-names
invariant-names l = record {
  all : l.are_names ≡ list_all is_link_name (texts_of l.yielded);
  each : l.places ≡ with_paths [] (map (place_in_top l.top) (texts_of l.yielded));
}
