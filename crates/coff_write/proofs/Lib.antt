mod Room
mod SizeLaws
