use Rattle.std.proofs.Common.{rules}
use Rattle.osm_disk.specs.Names.{IsBare, IsIn, in_no_folder}
use Rattle.osm_disk.proofs.NameLemmas.{folder_or_root}
use Rattle.osm_disk.proofs.names.folder_of.Goals as goal

pub returns-in-None : goal.returns-in-None
returns-in-None c = let bare : IsBare c.args.path.now = search rules in in_no_folder bare

pub returns-in-Some : goal.returns-in-Some
returns-in-Some c =
    let is : IsIn c.in-Some.folder.now c.in-Some.field-0-1.now c.args.path.now = search rules in
    folder_or_root c.in-Some.folder.now c.in-Some.field-0-1.now c.args.path.now c.or_root.result.now is c.or_root.ensures.root c.or_root.ensures.below
