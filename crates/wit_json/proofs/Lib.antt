mod Behind
mod Texts
