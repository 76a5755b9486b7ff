-- What methods, classes and keys tell stays the same while the names grow.
use Rattle.std.proofs.Common.{◌≡◌, ◌<◌, List, Option, Some, None, IfSome, option_map, length, refl, sym}
use Rattle.std.proofs.lemmas.List.Elements.{All-weaker}
use Rattle.zw_lemmas.proofs.ListLemmas.{map-same}
use Rattle.zw_def.proofs.NameLemmas.{number_grown, text_grown}
use Rattle.zw_def.specs.Text.{Text}
use Rattle.zw_def.specs.Names.{OnlyGrows}
use Rattle.zw_names.specs.declared.names.Name.{Name}
use Rattle.zw_thin.specs.ClassFile.{method_seen, methods_seen, class_seen, MethodsNamed, ClassNamed}
use Rattle.zw_thin.specs.Key.{idle_seen, key_seen, keys_seen, KeyNamed, KeysNamed}
use Rattle.zw_thin.specs.declared.class_file.Method.{Method}
use Rattle.zw_thin.specs.declared.class_file.ClassFile.{ClassFile}
use Rattle.zw_thin.specs.declared.keys.IdleFile.{IdleFile}

pub method_grown : (old new : List Text) (m : Method) → OnlyGrows old new → m.name.0 < length old → method_seen old m ≡ method_seen new m
method_grown old new m grows lt = λ i. record { name = sym (text_grown old new m.name.0 grows lt) i; value = m.value }

pub methods_grown : (old new : List Text) (methods : List Method) → OnlyGrows old new → MethodsNamed old methods → methods_seen old methods ≡ methods_seen new methods
methods_grown old new methods grows named = map-same (method_seen old) (method_seen new) (λ m. m.name.0 < length old) methods (λ m lt. method_grown old new m grows lt) named

pub MethodsNamed-grown : (old new : List Text) (methods : List Method) → OnlyGrows old new → MethodsNamed old methods → MethodsNamed new methods
MethodsNamed-grown old new methods grows named = All-weaker (λ (m : Method). m.name.0 < length old) (λ (m : Method). m.name.0 < length new) (λ m lt. number_grown old new m.name.0 grows lt) methods named

pub class_grown : (old new : List Text) (c : ClassFile) → OnlyGrows old new → ClassNamed old c → class_seen old c ≡ class_seen new c
class_grown old new c grows named = λ i. record { name = sym (text_grown old new c.name.0 grows named.0) i; methods = methods_grown old new c.methods.items grows named.1 i }

pub ClassNamed-grown : (old new : List Text) (c : ClassFile) → OnlyGrows old new → ClassNamed old c → ClassNamed new c
ClassNamed-grown old new c grows named = (number_grown old new c.name.0 grows named.0, MethodsNamed-grown old new c.methods.items grows named.1)

file_grown : (old new : List Text) (file : Option IdleFile) → OnlyGrows old new → IfSome file (λ f. ClassNamed old f.class) → option_map (idle_seen old) file ≡ option_map (idle_seen new) file
file_grown old new None grows named = refl
file_grown old new (Some f) grows named = λ i. Some (record { path = f.path; class = class_grown old new f.class grows named i })

key_grown : (old new : List Text) (k : Name × Option IdleFile) → OnlyGrows old new → KeyNamed old k → key_seen old k ≡ key_seen new k
key_grown old new k grows named = λ i. record { name = sym (text_grown old new k.0.0 grows named.0) i; file = file_grown old new k.1 grows named.1 i }

pub keys_grown : (old new : List Text) (keys : List (Name × Option IdleFile)) → OnlyGrows old new → KeysNamed old keys → keys_seen old keys ≡ keys_seen new keys
keys_grown old new keys grows named = map-same (key_seen old) (key_seen new) (KeyNamed old) keys (λ k h. key_grown old new k grows h) named

FileNamed-grown : (old new : List Text) (file : Option IdleFile) → OnlyGrows old new → IfSome file (λ f. ClassNamed old f.class) → IfSome file (λ f. ClassNamed new f.class)
FileNamed-grown old new None grows named = tt
FileNamed-grown old new (Some f) grows named = ClassNamed-grown old new f.class grows named

pub KeysNamed-grown : (old new : List Text) (keys : List (Name × Option IdleFile)) → OnlyGrows old new → KeysNamed old keys → KeysNamed new keys
KeysNamed-grown old new keys grows named = All-weaker (KeyNamed old) (KeyNamed new) (λ k h. (number_grown old new k.0.0 grows h.0, FileNamed-grown old new k.1 grows h.1)) keys named
