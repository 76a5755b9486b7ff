use Rattle.zw_places.proofs.check.Check.is_broken.Goals as goal

pub returns-in-Jump : goal.returns-in-Jump
returns-in-Jump c = λ names distinct within. rw c.in-Jump.is (c.is_misplaced_jump.ensures names)

pub returns-in-MethodInClass : goal.returns-in-MethodInClass
returns-in-MethodInClass c = λ names distinct within. rw c.in-MethodInClass.is (c.is_misplaced_def.ensures names)

pub returns-in-DefinitionInMethod : goal.returns-in-DefinitionInMethod
returns-in-DefinitionInMethod c = λ names distinct within. rw c.in-DefinitionInMethod.is (c.is_definition_in_method.ensures names)
