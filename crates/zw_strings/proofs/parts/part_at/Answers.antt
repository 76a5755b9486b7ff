use Rattle.std.proofs.Common.{chars, length, map, FitsSigned, rules}
use Rattle.std.specs.Int.{w64}
use Rattle.std.proofs.lemmas.Int.{to_z-of_z}
use Rattle.zw_def_world.specs.Act.{gives}
use Rattle.zw_def_world.specs.StringRows.{character_at, characters_at, part_at, place_in}
use Rattle.zw_def_world.specs.Value.{nil}
use Rattle.zw_heap.specs.Telling.{tell}
use Rattle.zw_strings.proofs.PartLemmas.{part-nothing, part-character, part-characters}
use Rattle.zw_strings.proofs.WorkLemmas.{all_left, same_left}
use Rattle.zw_strings.proofs.parts.part_at.Goals as goal

pub returns-in-empty : goal.returns-in-empty
returns-in-empty c = λ h names.
    let cs = chars c.args.text.now in
    let args = c.args.args.now in
    same_left h names (λ s I. gives nil) (λ s I. part_at cs (map (tell I) args)) (λ s I fit. part-nothing cs args I c.in-empty.len_below) c.nothing.result (c.nothing.ensures h names)

pub returns-in-len1 : goal.returns-in-len1
returns-in-len1 c = λ h names.
    let cs = chars c.args.text.now in
    let args = c.args.args.now in
    let place = c.integer_in.result in
    let fits_place : FitsSigned w64 place = search rules in
    let made = simp to_z-of_z at (c.character_at.ensures h names) in
    all_left h names (λ s I. character_at (place_in place (length cs)) cs) (λ s I. part_at cs (map (tell I) args))
    (λ s I fit. part-character cs args I place c.in-len1.len_at_least c.in-len1.len_below (c.integer_in.ensures I)) c.character_at.result made

pub returns-in-len2-up : goal.returns-in-len2-up
returns-in-len2-up c = λ h names.
    let cs = chars c.args.text.now in
    let args = c.args.args.now in
    let place = c.integer_in-in-len2-up.result in
    let count = c.integer_in-in-len2-up-2.result in
    let fits_place : FitsSigned w64 place = search rules in
    let fits_count : FitsSigned w64 count = search rules in
    let made = simp to_z-of_z at (c.characters_at.ensures h names) in
    all_left h names (λ s I. characters_at (place_in place (length cs)) count cs) (λ s I. part_at cs (map (tell I) args))
    (λ s I fit. part-characters cs args I place count c.in-len2-up.len_at_least (c.integer_in-in-len2-up.ensures I) (c.integer_in-in-len2-up-2.ensures I)) c.characters_at.result made
